pub mod Known
pub mod Counting
pub mod Testing
