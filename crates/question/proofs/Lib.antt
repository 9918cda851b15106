-- Laws of this room: what a question that passes is, whom admitted links lead to, what the eighth number does, and how the graph grows.
pub mod Refused
pub mod Answerable
pub mod Numbered
pub mod Leads
pub mod Undated
pub mod Growing
