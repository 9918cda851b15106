-- Laws of this room: what an answer tells, calls one after another, and one result only.
pub mod OneResult
pub mod Telling
pub mod Onward
