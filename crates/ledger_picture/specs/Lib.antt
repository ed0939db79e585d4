pub mod Front
pub mod Numbers
