pub mod Stages
pub mod Lines
