pub mod Pieces
pub mod Buffers
pub mod Standing
