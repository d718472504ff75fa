pub mod Trial
pub mod Part
pub mod Tick
pub mod Output
pub mod Site
pub mod Answer
pub mod Waits
pub mod Runs
