pub mod Numbers
pub mod Finishing
pub mod Telling
pub mod Moments
