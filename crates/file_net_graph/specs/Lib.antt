pub mod Lines
pub mod Graph
