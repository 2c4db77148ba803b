pub mod Small
pub mod Turns
pub mod Reduction
pub mod Computed
pub mod Laws
pub mod FirstQuarter
