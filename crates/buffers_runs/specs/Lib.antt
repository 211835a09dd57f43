pub mod Zeros
pub mod Largest
