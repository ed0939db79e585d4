-- What private contracts cite.
pub mod Rooms
pub mod Serving
pub mod Wires
