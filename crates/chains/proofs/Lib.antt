-- Laws of this room: counts fit their digits, a portion leaves what is still to come, and what is left is put on pieces.
pub mod Bounded
pub mod Going
pub mod Heard
pub mod Looking
pub mod Putting
pub mod Cut
pub mod Undated
