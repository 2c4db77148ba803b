-- Laws of the definitions, for the proofs here and in other crates.
pub mod Bases
pub mod Stores
pub mod Patterns
mod Chunks
pub mod Laws
pub mod DoubleStores
pub mod Lists
