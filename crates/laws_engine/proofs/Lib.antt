pub mod Networks
pub mod Refusals
pub mod Telling
pub mod Calls
pub mod Dead
pub mod Serving
pub mod Folding
