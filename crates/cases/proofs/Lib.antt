-- The table of the cases, proved.
pub mod Cases
