-- Laws of this room: from half chains in their places to the answer, refusal numbers, and one result only.
pub mod OverGraph
pub mod Public
pub mod Numbered
pub mod OneResult
