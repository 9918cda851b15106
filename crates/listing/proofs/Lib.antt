-- Laws of portions of any listing: what is known of one, what its answer tells, calls laid end to end, and one result only.
pub mod Records
pub mod Answering
pub mod Known
pub mod Telling
pub mod Numbered
pub mod OneResult
pub mod LaidEnd
pub mod Onward
