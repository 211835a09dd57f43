pub mod Legal
pub mod Ruled
