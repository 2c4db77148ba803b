pub mod Seasons
pub mod Table
pub mod Parts
