pub mod Page
pub mod Text
pub mod Checks
pub mod Answer
