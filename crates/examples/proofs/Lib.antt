pub mod Definitions
pub mod StartLaws
pub mod NoBlocks
pub mod Examples
