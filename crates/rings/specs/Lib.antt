-- The rings of a file and a question, and the promise of their portions. Definitions only.
pub mod Rings
