-- The laws of records handed over, for every room that finds chains.
pub mod Copying
pub mod Recording
pub mod Handing
