-- `Rule` has the claim that every day has its date, `Entries` what is known of a list by a computed test.
pub mod Rule
mod Entries
