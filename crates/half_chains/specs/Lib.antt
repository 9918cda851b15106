-- What writing the half chains and gathering the chains ask, and what they do. Definitions only.
pub mod Shelf
