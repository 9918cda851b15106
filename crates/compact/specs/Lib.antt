-- How row starts and targets are read as the persons that a person has links to (Compact, and Links of a lent graph), and marks (Marks).
-- Definitions only.
pub mod Compact
pub mod Links
pub mod Marks
