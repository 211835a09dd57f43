pub mod Same
pub mod Valued
pub mod Sources
