pub mod Printed
pub mod Inhabited
pub mod Contracts
