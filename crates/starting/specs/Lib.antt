-- What listing from a start asks and promises (Starting), and the test of a bookmark. Definitions only.
pub mod Starting
pub mod Bookmark
