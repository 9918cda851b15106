-- The statements: one result only, what a simple path is, the three demands, what a question's eighth number does, and what is told at the C door.
-- Definitions only.
pub mod OneResult
pub mod Paths
pub mod Demands
pub mod Undated
pub mod Door
