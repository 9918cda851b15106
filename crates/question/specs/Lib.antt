-- The question and its refusals, which links it admits, what both were before the eighth number, and the compact graph of a file. Definitions only.
pub mod Asked
pub mod Admission
pub mod Before
pub mod Inside
pub mod Filled
