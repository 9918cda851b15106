-- What the rooms of the product speak of: definitions only.
pub mod Graph
pub mod Chain
pub mod Order
pub mod Listing
pub mod Portions
pub mod Records
pub mod Sizes
pub mod Fewest
pub mod ByHops
pub mod Halves
pub mod Join
pub mod Ring
