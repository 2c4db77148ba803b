-- `Range` says where a day's values lie, `TableLaws` that the table of days holds them.
pub mod Range
pub mod TableLaws
