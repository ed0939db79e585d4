pub use Rattle.core_run.specs.World
pub mod Events
pub mod Kept
pub mod Merging
pub mod Own
