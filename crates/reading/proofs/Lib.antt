-- Laws of this room: read behind read.
pub mod OneMore
