-- The promise of the held listing (Holding), what a call leaves to be stored in it (Keeping), and calls of it one after another (Calls). Definitions only.
pub mod Holding
pub mod Keeping
pub mod Calls
