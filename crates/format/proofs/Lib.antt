-- Laws of this room: what the rules of the header say.
pub mod Counted
