mod Called
pub mod Cuts
pub mod Ending
pub mod Ends
mod Few
mod Limits
mod Prelude
mod RankBegun
mod RankSteps
pub mod Ranks
pub mod ServerBegun
pub mod ServerSteps
pub mod Telling
mod Told
mod Walks
