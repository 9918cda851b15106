-- Laws of this room: the rings of a person are a listing, and the search lists them.
pub mod Instance
