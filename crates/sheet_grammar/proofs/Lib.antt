-- Texts, their bytes and brackets.
pub mod SliceLaws
pub mod ByteLaws
pub mod EvenLaws
-- The beginning of an item.
pub mod HeadLaws
pub mod HeadFoundLaws
pub mod HeadLocalLaws
-- The reader: its rules allow one answer; what it reads is in the grammar, and what is in the grammar it reads; where it refuses.
pub mod RuleLaws
pub mod SoundLaws
pub mod CompleteLaws
pub mod PlaceLaws
pub mod ViableLaws
pub mod ExactLaws
pub mod DepthLaws
pub mod DecidedLaws
-- The node table of a tree.
pub mod NodeLaws
pub mod RangeLaws
pub mod SizeLaws
pub mod MeaningLaws
