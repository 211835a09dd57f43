pub mod Bits
pub mod Left
pub mod Recorded
pub mod Calls
