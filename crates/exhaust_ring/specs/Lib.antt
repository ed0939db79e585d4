pub mod Expected
pub mod inside
pub mod Ring
pub mod Tests
pub mod Visits
