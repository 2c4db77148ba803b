-- `Walks` is for the loop of the code. `Places` and `SameWalks` have the laws of the walk: what stands at the place where it ends, and
-- two walks along sectors that are bounded alike.
pub mod Walks
pub mod Places
pub mod SameWalks
