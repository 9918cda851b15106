-- Laws of this room: the chains from From to To are a listing.
pub mod Instance
