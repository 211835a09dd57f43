pub mod Storing
pub mod Single
pub mod Held
