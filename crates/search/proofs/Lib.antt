-- The laws that the proofs of the functions cite: one for each thing that is not plain arithmetic.
mod Writing
mod Resuming
mod Steps
mod Face
