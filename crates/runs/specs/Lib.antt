pub mod Plain
pub mod Run
pub mod Cut
pub mod Demand3
pub mod Corollaries
pub mod Progress
pub mod Silence
