pub mod Loaded
pub mod Checked
