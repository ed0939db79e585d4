pub mod Bodies
pub mod Read
