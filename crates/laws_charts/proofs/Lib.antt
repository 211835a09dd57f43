pub mod Lines
pub mod Refusals
pub mod Pages
pub mod Exact
pub mod Within
pub mod Exported
pub mod Trials
