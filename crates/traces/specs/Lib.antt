-- What the functions of this room ask, and what they do: the index of right halves (Indexed), handing over (HandingOver), and the
-- recursion (Traces). Definitions only.
pub mod Indexed
pub mod HandingOver
pub mod Traces
