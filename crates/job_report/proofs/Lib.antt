pub mod Pieces
pub mod Kept
pub mod Sought
pub mod Summed
pub mod Told
pub mod Parts
pub mod Unique
pub mod Worked
