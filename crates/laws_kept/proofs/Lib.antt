pub mod Tables
pub mod Heads
pub mod Panels
pub mod Memories
pub mod Outcomes
pub mod Replies
