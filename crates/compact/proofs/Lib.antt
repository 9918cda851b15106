-- Laws of the compact graph.
pub mod Rows
pub mod Marking
