pub mod Bits
pub mod Turned
pub mod Checks
pub mod Answer
