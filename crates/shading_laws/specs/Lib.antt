pub mod Premises
pub mod Sizes
