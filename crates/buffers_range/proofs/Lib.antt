pub mod Laid
pub mod Ranged
