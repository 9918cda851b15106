-- What barriers are, and what settling them asks and promises; and, for this room alone, what an entry of the trail is (Trail).
pub mod Trail
pub mod Barriers
pub mod Settling
pub mod Squeezing
