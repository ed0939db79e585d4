pub mod Checks
pub mod Failing
pub mod inside
pub mod Left
pub mod Out
pub mod Quiet
pub mod Waits
