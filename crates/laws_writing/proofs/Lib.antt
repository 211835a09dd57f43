pub mod Spelling
pub mod RoundTrip
