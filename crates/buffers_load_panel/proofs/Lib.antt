pub mod Panel
pub mod Places
