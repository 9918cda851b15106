-- Laws of this room: looks laid one behind the other, the numbers of refusals, and what an answer tells.
pub mod Reasons
pub mod Faults
pub mod Numbered
pub mod Answers
pub mod Room
