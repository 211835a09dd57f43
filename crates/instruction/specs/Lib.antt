pub mod Operand
pub mod Instruction
pub mod Sender
