pub mod Cuts
pub mod Rows
pub mod Sums
pub mod Through
pub mod UnderWay
pub mod Written
