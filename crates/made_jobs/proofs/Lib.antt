pub mod Drawing
pub mod Lengths
pub mod Relabelling
pub mod Signs
mod Worked
