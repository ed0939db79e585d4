pub mod Tasks
pub mod Arrivals
pub mod Books
pub mod Calls
pub mod Desk
pub mod Follows
pub mod Transcripts
pub mod Working
