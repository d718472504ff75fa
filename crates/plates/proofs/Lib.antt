-- The laws of this crate's definitions, for its own proofs and for the crates above.
pub mod HexLaws
pub mod MapLaws
pub mod KeptLaws
pub mod HeadLaws
pub mod BoundLaws
pub mod WordLaws
pub mod AnswerLaws
pub mod PlateLaws
