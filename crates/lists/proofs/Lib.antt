-- The laws of this crate's definitions, for its own proofs and for the crates above.
pub mod TestLaws
pub mod PartLaws
pub mod ArrayLaws
pub mod SelectLaws
pub mod ChunkLaws
pub mod PageLaws
pub mod LittleEndianLaws
