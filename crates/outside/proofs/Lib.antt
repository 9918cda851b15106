-- Laws of this room: numbers have room in 64 bits and can be taken apart again, and each promise allows one result.
pub mod Numbered
pub mod OneResult
pub mod HeldCells
pub mod TakenApart
