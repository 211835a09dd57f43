pub mod RoundTrip
pub mod Refusals
pub mod Chained
pub mod Exported
pub mod Trials
