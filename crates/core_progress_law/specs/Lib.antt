pub use Rattle.core_wish_law.specs.Bounds
pub use Rattle.core_law.specs.Lines
pub use Rattle.core_law.specs.Found
pub mod Ended
pub mod Going
pub mod Room
