pub mod Finding
pub mod Obeyed
pub mod Shapes
