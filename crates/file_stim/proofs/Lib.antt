pub mod Rising
pub mod Judging
pub mod Lines
pub mod Steps
pub mod Passed
