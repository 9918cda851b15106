-- Laws of this room: what a file that passes is, the numbers of its refusals, and one result only.
pub mod Tabled
pub mod Passed
pub mod Linked
pub mod Numbered
pub mod OneResult
