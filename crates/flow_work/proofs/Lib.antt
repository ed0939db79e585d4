pub mod Calling
pub mod Homes
pub mod Making
pub mod Fitting
pub mod Steps
pub mod Stocks
pub mod Ways
