pub mod Lines
pub mod Accepted
