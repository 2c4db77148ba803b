pub mod Segments
pub mod SameSectors
pub mod FoundSegment
