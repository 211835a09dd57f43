pub mod Answer
pub mod Form
pub mod Layout
