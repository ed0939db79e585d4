pub use Rattle.adlb_rank.specs.Calls
pub use Rattle.adlb_unit.specs.Limits
pub use Rattle.rank_client.specs.Link
pub mod Ranks
pub mod Runs
pub mod WorkerCalls
pub mod Worked
