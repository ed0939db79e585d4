pub mod Journals
pub mod Lists
pub mod Machines
pub mod Orders
pub mod Runs
