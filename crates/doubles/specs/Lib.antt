pub mod Arithmetic
pub mod Functions
pub mod Order
pub mod Ranges
pub mod Series
