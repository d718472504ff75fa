pub mod Part
pub mod Select
pub mod Page
pub mod LittleEndian
pub mod Refusal
