-- Laws of the root, on plain numbers and doubles. `Theorems` has those that a reader wants.
pub mod Whole
pub mod Scale
pub mod Remainder
pub mod Pattern
pub mod Doubles
pub mod Cases
pub mod Nearest
pub mod Theorems
