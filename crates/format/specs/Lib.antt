-- The link file in the order of the customer's document: its numbers, its tables and its kinds. Definitions only.
pub mod Numbers
pub mod Format
pub mod Kinds
pub mod Laid
