pub mod Panel
pub mod Stores
pub mod Program
pub mod Tables
pub mod Holding
pub mod Decoded
