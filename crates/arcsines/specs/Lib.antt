pub mod Arcsine
pub mod ArcsineParts
