-- `AllSteps` has a test at every step, `CheckSteps` the checks one after the other, `KeptLaws` what a run keeps, `StepByStep` the run
-- over a loop.
pub mod AllSteps
pub mod CheckSteps
pub mod KeptLaws
pub mod StepByStep
