pub mod Search
pub mod Methods
