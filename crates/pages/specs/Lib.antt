pub mod Dirty
pub mod DirtyMessages
pub mod Clean
pub mod Write
