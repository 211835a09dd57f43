pub mod Answer
pub mod Refused
