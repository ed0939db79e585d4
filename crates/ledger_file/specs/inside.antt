-- For the crate itself. What the code holds as fields, the names of entries, and how lines are read.
pub mod Given
pub mod Names
pub mod Reading
pub mod Rows
pub mod Next
