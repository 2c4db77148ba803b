pub mod SingleSteps
