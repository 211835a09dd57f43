pub mod Faults
pub mod Lines
pub mod Slots
