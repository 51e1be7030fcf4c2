-- The laws that the proofs of the functions cite.
pub mod MaskLaws
pub mod MoveLaws
pub mod RowLaws
pub mod SameLaws
pub mod UnionLaws
pub mod PlaceLaws
pub mod EdgeSetLaws
pub mod PairSetLaws
