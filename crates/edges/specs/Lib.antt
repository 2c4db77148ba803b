pub mod Shades
pub mod Values
