-- Laws of this room: a record put together, turns of a loop that hands over, the recursion step by step, and what it meets.
pub mod Writing
pub mod Turns
pub mod Steps
pub mod Meeting
