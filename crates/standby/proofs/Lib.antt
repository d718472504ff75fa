-- What this crate's proofs share.
pub mod ArmLaws
pub mod FitsLaws
