pub mod Test
pub mod Listed
pub mod Numbered
