pub mod HourParts
pub mod UnitRange
pub mod ByAltitude
pub mod Range
