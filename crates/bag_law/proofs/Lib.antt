pub mod Apart
pub mod Batches
pub mod Calls
pub mod Counts
pub mod Dues
pub mod Ends
pub mod Facts
pub mod Fetches
pub mod Ids
pub mod Once
pub mod Plain
pub mod Promises
pub mod Refusals
pub mod Shares
pub mod Sound
pub mod There
pub mod Turn
mod Worked
