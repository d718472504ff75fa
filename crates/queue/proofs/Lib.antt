-- The laws of this crate's definitions, for its own proofs and for the crates above.
pub mod ArrayLaws
pub mod PacketLaws
pub mod SeenLaws
pub mod PlaceLaws
pub mod QueueLaws
pub mod HeldLaws
pub mod PortLaws
