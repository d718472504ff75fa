pub mod Number
pub mod Kind
pub mod Cases
pub mod Read
pub mod Write
pub mod Area
pub mod Message
pub mod Missing
