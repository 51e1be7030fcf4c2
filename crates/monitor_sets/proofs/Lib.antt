-- The laws that the proofs of the functions cite.
pub mod CreatedLaws
pub mod HighestLaws
pub mod OrderLaws
pub mod SetLaws
pub mod PlaceLaws
pub mod RetiredLaws
pub mod ClosingLaws
pub mod MovedLaws
pub mod EventLaws
-- The union of many sets, sixteen at a time.
pub mod LaneLaws
