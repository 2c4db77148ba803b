pub mod Steps
pub mod Timestep
pub mod RunChecks
pub mod Iterator
