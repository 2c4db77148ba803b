-- `Times` has the laws of a run's steps, `HoursOfSteps` those of their hours, `SeriesIndices` of their places in a series,
-- `IteratorSteps` that they are the Rust's. `Accepted` says what a run's check gives, `Quarters` why a run ends.
pub mod Quarters
pub mod Accepted
pub mod Times
pub mod HoursOfSteps
pub mod SeriesIndices
pub mod IteratorSteps
