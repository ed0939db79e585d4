pub mod Compose
pub mod Examples
pub mod Growing
pub mod Lists
pub mod Once
