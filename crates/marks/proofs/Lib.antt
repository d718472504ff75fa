-- For the crates above: the laws of marks and of the walk. The others are for this crate's own proofs.
pub mod MarkLaws
pub mod SetLaws
pub mod NextLaws
pub mod WalkLaws
mod BitLaws
mod SetBitLaws
mod WordLaws
