pub mod Heads
pub mod Commands
pub mod Running
