-- Laws of this room: the test of a bookmark, and where a portion starts.
pub mod Bookmarks
pub mod Cells
pub mod Starting
