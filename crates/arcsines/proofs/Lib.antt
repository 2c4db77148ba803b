pub mod ArcsineParts
pub mod Computed
pub mod Inner
pub mod Range
