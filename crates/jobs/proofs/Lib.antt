-- `TwoJobs` has the claim on two jobs compared. `RunLaws` says what a run leaves, `RowStores` how a row is read back, `StepRows` what a
-- step's row has, `PassedChecks` what an accepted job has, `ObjectLists` what the words of two jobs' lists say of their records, `Sums`
-- that sums keep the order. `TotalsRecords` says how records of totals stand in a list, `TotalsLaws` how totals go on by a row.
-- `EveryHour` has the claim that every hour has numbers, `WithTableLaws` the one on days worked out once, `LargestLaws` the one on the
-- largest total, `HourlyLaws` the one on runs of one-hour steps, `OneListLaws` the one on older jobs with one list of sectors.
pub mod RowStores
pub mod Sums
pub mod StepRows
pub mod PassedChecks
pub mod TotalsRecords
pub mod TotalsLaws
pub mod LargestLaws
pub mod RunLaws
pub mod ObjectLists
pub mod EveryHour
pub mod WithTableLaws
pub mod HourlyLaws
pub mod OneListLaws
pub mod TwoJobs
