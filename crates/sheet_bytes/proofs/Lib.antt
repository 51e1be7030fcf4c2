-- The laws of the definitions in specs/, for the proofs of this crate and of those above it.
pub mod ByteLaws
pub mod GrammarLaws
pub mod MoreLaws
pub mod FaultLaws
