-- Faults with number and place, laid one behind the other (Faults), and answers that list or refuse (Answers). Definitions only.
pub mod Reasons
pub mod Faults
pub mod Answers
