pub mod Unmarked
pub mod Pushing
pub mod Searching
pub mod Loops
pub mod Walk
