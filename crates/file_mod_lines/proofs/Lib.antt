pub mod Judged
pub mod Lines
pub mod Accepted
