pub mod Hex
pub mod Words
pub mod Plate
pub mod Read
