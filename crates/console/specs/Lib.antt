pub mod Run
pub mod Moved
