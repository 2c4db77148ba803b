pub mod Terms
pub mod Computed
pub mod Range
