pub mod Command
pub mod Pair
pub mod Output
pub mod Site
