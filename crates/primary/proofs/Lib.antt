-- The laws of this crate's own proofs.
pub mod AppendLaws
pub mod RangeLaws
