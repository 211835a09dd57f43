pub mod Header
pub mod Carried
pub mod Commands
