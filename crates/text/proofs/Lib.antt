-- The laws of this crate's definitions, for its own proofs and for the crates above.
pub mod LineLaws
pub mod SplitLaws
pub mod DecimalLaws
pub mod NumberLaws
pub mod KeptLaws
pub mod WordLaws
pub mod RowLaws
pub mod PrintLaws
pub mod FeedPartLaws
pub mod FeedLaws
pub mod RunLaws
pub mod TurnLaws
