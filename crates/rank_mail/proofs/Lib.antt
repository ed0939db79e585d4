mod Ends
pub mod Lists
mod Steps
