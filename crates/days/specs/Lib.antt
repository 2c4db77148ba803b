-- What depends on the day alone (`Day`), and the table of it for the year (`Table`).
pub mod Day
pub mod Table
