-- Laws of this room: what a row shows, behind whom nobody has a link, what a round settles, when the table is right, and one result only.
pub mod Looking
pub mod Linking
pub mod Stepping
pub mod Settled
pub mod OneResult
