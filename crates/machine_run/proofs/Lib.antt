pub mod Cycles
pub mod Tables
