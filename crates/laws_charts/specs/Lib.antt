pub mod Calls
pub mod Reading
pub mod Claim
