-- Laws of this room: digits, counting on, lines, and records that were written.
pub mod Printing
pub mod Spelling
pub mod Counting
pub mod Lining
pub mod Written
