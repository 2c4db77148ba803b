pub mod Factor
pub mod ObjectSteps
pub mod SunPlaces
pub mod Call
