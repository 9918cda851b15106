-- Portions of any listing: what they are (Portions), what is promised of them (Answers), and calls one after another (EndToEnd, Onward).
-- Definitions only.
pub mod Portions
pub mod Answers
pub mod EndToEnd
pub mod Onward
