pub mod Fetching
pub mod Stores
pub mod Slots
