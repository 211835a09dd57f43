pub mod Fields
pub mod Arrays
pub mod Has
