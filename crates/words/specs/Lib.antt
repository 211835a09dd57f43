pub mod Word
pub mod Stored
