pub mod Graph
pub mod Held
pub mod Zeros
pub mod Ranks
pub mod Passes
pub mod Descent
pub mod Methods
