-- The laws of what reading an expression gives.
pub mod ExpressionLaws
pub mod TableLaws
pub mod ExpressionExamples
-- The laws that the proofs of the functions cite.
pub mod TextLaws
pub mod ShiftLaws
pub mod ListingLaws
pub mod LabelLaws
pub mod GrowingLaws
pub mod FillLaws
pub mod ReadLaws
pub mod AnswerLaws
