pub mod Numbers
pub mod Rows
pub mod Told
pub mod Made
pub mod Codes
pub mod Chunks
