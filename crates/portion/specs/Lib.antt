-- The listing of a file and a question, and the promise of the portion. Definitions only.
pub mod Listing
