pub mod Line
pub mod Sender
