pub mod DigitSteps
pub mod Laws
