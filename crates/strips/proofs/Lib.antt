pub mod Loops
pub mod Means
pub mod StripLists
pub mod Walks
pub mod StripLaws
pub mod StripLimits
