pub mod Loading
pub mod Closed
pub mod Checked
