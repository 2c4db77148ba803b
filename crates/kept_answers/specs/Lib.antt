pub mod KeptRecords
pub mod Leaves
pub mod Differs
