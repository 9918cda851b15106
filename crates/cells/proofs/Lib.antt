-- The law of going through cells.
pub mod Copying
pub mod Seeking
