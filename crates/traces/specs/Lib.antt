pub mod Command
pub mod Fault
pub mod Words
pub mod Row
pub mod Output
pub mod Site
pub mod Runs
