-- The laws of the ranges, for this crate's own proofs and for the crates above.
pub mod RangeLaws
