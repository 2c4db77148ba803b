-- `Loops` is for the loops of the code.
pub mod Loops
pub mod SunPlaces
