pub mod After
pub mod Ends
pub mod OnWay
pub mod Settling
pub mod Tokens
pub mod Turn
