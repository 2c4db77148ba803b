pub mod Table
pub mod Sky
pub mod Surface
pub mod Parts
