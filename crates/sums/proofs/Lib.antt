-- The laws of sums and of orders, for this crate's own proofs and for the crates above.
pub mod SumLaws
mod PageSumLaws
pub mod OrderLaws
pub mod NamedLaws
