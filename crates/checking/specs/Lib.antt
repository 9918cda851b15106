-- The refusals of a file (Places, Links, Checked), the verdict, the row view, and the promises of check and row view. Definitions only.
pub mod Places
pub mod Links
pub mod Verdict
pub mod Checked
pub mod Rows
pub mod Inside
pub mod Answers
