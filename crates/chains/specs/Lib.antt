-- What the program prints for what it reads, and what is still to come while it prints. Definitions only.
pub mod Program
pub mod Onward
pub mod Pieces
pub mod Inside
