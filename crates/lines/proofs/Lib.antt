pub mod Numerals
mod Values
