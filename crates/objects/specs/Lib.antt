pub mod Objects
pub mod Records
pub mod Refusals
pub mod Surface
