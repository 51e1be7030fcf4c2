-- The laws that the proofs of the functions cite.
pub mod ChoiceLaws
pub mod CodeLaws
pub mod PartLaws
pub mod PastLaws
pub mod WritingLaws
pub mod LeanLaws
