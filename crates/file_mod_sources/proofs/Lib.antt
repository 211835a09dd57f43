pub mod Senders
pub mod Operands
pub mod Found
