pub mod Asked
pub mod Mirror
pub mod Found
