pub use Rattle.actor_desk.specs.World
pub mod Faults
pub mod RankJobs
pub mod Run
pub mod ServerJobs
pub mod inside
