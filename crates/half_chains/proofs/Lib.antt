-- Laws of this room: going through the half chains, and where they stand in the working cells.
pub mod Shelving
pub mod Standing
