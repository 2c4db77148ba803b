-- What is kept from step to step.
pub mod Kept
