-- The statements of specs/, proved from the rooms' own laws.
pub mod OneResult
pub mod Ending
pub mod Paths
pub mod Laid
pub mod Rings
pub mod Fewest
pub mod Undated
pub mod Door
pub mod Demands
