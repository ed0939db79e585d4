pub mod Calls
pub mod Follows
pub mod Pieces
pub mod Stocks
pub mod Working
