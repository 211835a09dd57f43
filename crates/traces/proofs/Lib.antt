pub mod Bits
pub mod Refusals
pub mod Block
pub mod Unused
pub mod Turning
