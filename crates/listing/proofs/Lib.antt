pub mod Lines
pub mod Buffers
pub mod Pieces
pub mod Standing
pub mod Opening
