pub mod Slots
pub mod Numbered
pub mod Widest
pub mod Senders
