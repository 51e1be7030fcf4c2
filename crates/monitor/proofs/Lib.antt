-- The laws that the proofs of the functions cite.
pub mod JudgeLaws
pub mod LentLaws
pub mod EventLaws
