-- What the checks of surface and lists give: `RecordLists` for their loops, `Accepted`, `AcceptedWindow` and `AcceptedSectors` the
-- ranges of what is accepted, `ReadableSectors` that its sectors can be read without a test.
pub mod RecordLists
pub mod Accepted
pub mod AcceptedWindow
pub mod AcceptedSectors
pub mod ReadableSectors
