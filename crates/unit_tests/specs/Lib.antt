pub mod Fake
