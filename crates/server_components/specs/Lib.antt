pub mod Calls
pub mod Grants
pub mod inside
pub mod Parked
pub mod Pushes
pub mod Put
pub mod Rest
pub mod Store
