-- The laws of this crate's definitions, for its own proofs and for the crates above.
pub mod KindLaws
pub mod FrameLaws
pub mod ReadLaws
pub mod FramedLaws
pub mod MessageLaws
pub mod MissingLaws
pub mod WriteLaws
pub mod AreaLaws
pub mod RefusalLaws
