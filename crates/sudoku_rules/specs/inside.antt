-- For the crate itself: the cells of a grid in place, its masks, and a grid that carries them along a walk.
pub mod Forms
pub mod Masks
pub mod Packed
pub mod Marked
pub mod Planes
pub mod Boards
pub mod Pieces
