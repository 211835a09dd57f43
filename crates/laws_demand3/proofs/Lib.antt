pub mod Meeting
pub mod Telling
pub mod Serving
pub mod Demand3
pub mod Exported
pub mod Cleared
pub mod Cycles
