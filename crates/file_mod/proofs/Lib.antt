pub mod Counts
pub mod Testing
pub mod Formed
pub mod Mapped
