pub mod Calls
pub mod Room
pub mod Stops
