pub mod Stores
pub mod Zeros
pub mod Held
pub mod Ranking
pub mod Passing
pub mod Descending
pub mod Feeders
