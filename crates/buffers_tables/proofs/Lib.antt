pub mod Places
pub mod Stores
pub mod Hands
pub mod Codes
