pub mod Value
pub mod Translation
pub mod Function
pub mod Gate
pub mod Legal
pub mod Table
