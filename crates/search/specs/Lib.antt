-- What the search asks and promises (Face); and, for this room alone, what its own functions ask of each other.
pub mod Face
pub mod Places
pub mod HandingOver
pub mod Bookmarks
pub mod Entering
