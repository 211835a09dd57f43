pub mod Field
pub mod Line
pub mod Numbers
pub mod Reading
pub mod Scan
