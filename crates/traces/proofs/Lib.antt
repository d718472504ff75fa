-- The laws of this crate's definitions, for its own proofs and for the crates above.
pub mod CommandLaws
pub mod KeptLaws
pub mod WordLaws
pub mod RowLaws
pub mod AnswerLaws
pub mod CallLaws
pub mod PairProved
pub mod FaultProved
pub mod RunProved
