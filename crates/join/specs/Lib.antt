-- What the join promises (Answers), of which lists (Lists). Definitions only.
pub mod Lists
pub mod Answers
