pub use Rattle.core_progress_law.specs.Ended
pub mod Applied
pub mod Fields
pub mod Seen
pub mod Stage
