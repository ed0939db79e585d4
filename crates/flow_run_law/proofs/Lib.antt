pub mod Complete
pub mod Good
pub mod Known
pub mod Laws
pub mod Once
pub mod Order
pub mod Told
pub mod Whole
mod Worked
