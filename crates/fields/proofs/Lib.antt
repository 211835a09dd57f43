pub mod Digit
pub mod Scanning
pub mod Folding
pub mod Columns
pub mod Lines
pub mod LowHalf
pub mod Taken
pub mod RightLine
