pub mod Fetched
pub mod Written
pub mod Regions
pub mod Halves
pub mod Near
pub mod Within
pub mod Values
