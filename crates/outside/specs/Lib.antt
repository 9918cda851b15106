-- What the exported functions answer: answers as numbers, a held listing in cells, and numbers taken apart. Definitions only.
pub mod Encoded
pub mod HeldCells
pub mod TakenApart
