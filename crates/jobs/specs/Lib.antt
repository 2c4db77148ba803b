-- A job and the checks before its first step (`Job`, `JobChecks`), one step (`Step`), its row in a list (`Rows`), what is kept of days
-- and months (`Totals`), the run over all steps (`Run`), and the claims: every hour has numbers (`Numbers`), days worked out once
-- (`WithTable`), the largest total of a day or a month (`LargestTotal`), runs of one-hour steps (`Hourly`), older jobs
-- with one list of sectors (`OneList`), two jobs compared (`Comparison`).
pub mod Job
pub mod JobChecks
pub mod Step
pub mod Rows
pub mod Totals
pub mod Run
pub mod Numbers
pub mod WithTable
pub mod LargestTotal
pub mod Hourly
pub mod OneList
pub mod Comparison
