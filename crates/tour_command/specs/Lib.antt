pub mod Ends
pub mod Tours
