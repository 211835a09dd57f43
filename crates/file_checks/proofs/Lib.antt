pub mod Joined
pub mod Refused
