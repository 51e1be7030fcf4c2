-- The laws of the definitions in specs/, for the proofs of this crate and of those above it.
pub mod ScanLaws
-- Values that no field may have.
pub mod LargeLaws
pub mod StepLaws
pub mod LinesLaws
pub mod BeginLaws
-- Accepted sheets, and what is stored of them.
pub mod AcceptLaws
pub mod SheetLaws
-- The pair policies of the lines so far.
pub mod PairsLaws
-- A sheet is refused in its stated case only.
pub mod CaseLaws
-- The two names lines of a sheet of policies.
pub mod NamesLaws
