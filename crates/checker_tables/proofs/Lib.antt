-- What the tables have room for, and that the nodes of an accepted outline fit.
pub mod FitLaws
-- Meanings that no longer occur.
pub mod MeaningLaws
-- Eight sets at once.
pub mod ByStateLaws
-- The rules of the table of ends.
pub mod RuleLaws
-- The numbers of entries.
pub mod NumberLaws
-- What is left of a match.
pub mod OtherLaws
-- The nodes that are left, and those that read a node.
pub mod WorkLaws
-- Resources that need not be watched.
pub mod TouchedLaws
-- Arrivals that are entered one after the other.
pub mod EnterLaws
-- Openings that reset.
pub mod ResetLaws
-- The search's answer, from filled tables.
pub mod AnswerLaws
-- A policy's marks, from filled tables.
pub mod MarkedLaws
-- A node without a form.
pub mod NoneLaws
