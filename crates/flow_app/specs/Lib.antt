pub mod Kinds
pub mod Reading
pub mod Finishing
pub mod Linked
pub mod Stored
pub mod inside
