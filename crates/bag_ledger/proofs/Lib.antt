pub mod Batches
pub mod Bridge
pub mod Calls
pub mod Charge
pub mod Ends
mod Examples
pub mod Fetches
pub mod Fixed
pub mod Heard
pub mod Legal
pub mod Lookups
pub mod Moves
mod Mutants
pub mod Pushes
pub mod Puts
pub mod Reserves
pub mod Settled
pub mod Tests
pub mod Turns
mod Worked
