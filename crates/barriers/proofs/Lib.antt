-- The laws of barriers that a search cites (Holding), and those of the trail, for this room alone.
pub mod Unwinding
mod Firsts
pub mod Holding
