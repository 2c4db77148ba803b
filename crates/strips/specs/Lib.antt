pub mod Strips
pub mod Laws
