-- `EdgeValues` has the specification's values at the edges, `FinValues` fins in both editions, `TotalsValues` dates and totals,
-- `Instances` four jobs that the claim on two jobs compared speaks of.
pub mod EdgeValues
pub mod FinValues
pub mod SeasonValues
pub mod TotalsValues
pub mod Instances
