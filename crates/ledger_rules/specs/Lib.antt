pub mod Complaints
pub mod Table
