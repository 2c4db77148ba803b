pub mod Sine
pub mod Reduction
