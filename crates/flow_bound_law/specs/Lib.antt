pub mod Most
pub mod UnderWay
