pub mod Balanced
pub mod Orderly
pub mod Parcels
pub mod Ways
