-- The six-person file, the table of the cases, and what passes on it. Definitions only.
pub mod SixPersons
pub mod Cases
pub mod Passing
