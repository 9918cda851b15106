-- The promise of fewest hops (Answers), the table behind it, and what the inner functions ask. Definitions only.
pub mod Table
pub mod Inside
pub mod Answers
