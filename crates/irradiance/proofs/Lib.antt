pub mod TableRow
pub mod Constants
pub mod Range
pub mod FiniteParts
