-- The laws of this crate's definitions, for its own proofs and for the crates above.
pub mod ArrayLaws
pub mod SlotLaws
pub mod StoreLaws
pub mod BlockLaws
pub mod ListLaws
pub mod FlushLaws
pub mod AgainLaws
