pub mod inside
pub mod Stats
