-- `Answers` has the laws of the answer, `Bounds`, `NoObjects`, `MoreObjects` and `SameObjects` those of its parts; what
-- they assume stands in `Premises` of specs/. `SizeLaws` has those of `Sizes` of specs/, `SizeLimits` where they end.
pub mod Sides
pub mod Members
pub mod ExtentSizes
pub mod Bounds
pub mod Doubles
pub mod NoObjects
pub mod MoreShade
pub mod Sizes
pub mod MoreObjects
pub mod Accepted
pub mod SizeLaws
pub mod SizeLimits
pub mod SameObjects
pub mod Answers
