pub mod Changes
pub mod Feeding
pub mod Cycling
