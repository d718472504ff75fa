pub mod Slot
pub mod Fits
pub mod SlotList
pub mod Stages
pub mod Flushes
