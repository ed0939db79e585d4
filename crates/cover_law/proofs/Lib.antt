pub mod Holding
pub mod Covered
pub mod Begun
pub mod Fronts
