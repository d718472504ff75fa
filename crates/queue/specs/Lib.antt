pub mod Held
pub mod HeldList
pub mod Seen
