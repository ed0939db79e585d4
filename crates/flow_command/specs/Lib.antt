pub mod Ends
pub mod Flows
