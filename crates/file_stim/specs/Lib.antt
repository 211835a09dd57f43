pub mod Acceptance
pub mod Answer
pub mod Stepping
pub mod Judging
