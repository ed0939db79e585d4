pub mod Items
pub mod Bodies
pub mod Reading
pub mod Puts
pub mod Works
pub mod Forms
