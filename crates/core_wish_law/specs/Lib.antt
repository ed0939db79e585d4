pub use Rattle.core_bound_law.specs.Bounds
pub use Rattle.core_bound_law.specs.Costs
pub use Rattle.core_bound_law.specs.Credits
pub mod News
