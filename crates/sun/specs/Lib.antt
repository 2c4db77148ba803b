pub mod Site
pub mod Hour
pub mod HourParts
