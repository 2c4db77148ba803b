-- `HourKept` has the parts of an hour, `StepKept` a step by what is kept.
pub mod HourKept
pub mod StepKept
