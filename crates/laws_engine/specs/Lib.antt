pub mod Interface
pub mod Lending
