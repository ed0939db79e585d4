pub use Rattle.adlb_threads.specs.Reports
pub mod Begun
pub mod Ends
pub mod inside
pub mod Kept
pub mod Reading
