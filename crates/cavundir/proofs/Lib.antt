pub mod Handed
pub mod Running
