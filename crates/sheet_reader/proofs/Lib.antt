-- The laws of the definitions in specs/, for the proofs of this crate and of those above it.
-- Accepted sheets, and what the readers store.
pub mod Below
pub mod StoreLaws
pub mod ReaderLaws
-- Outlines.
pub mod OutlineLaws
-- Accepted sheets store valid tables, and every valid table is what some accepted sheet gives.
pub mod TableLaws
pub mod Written
pub mod WrittenLaws
pub mod Converse
pub mod Examples
-- What the readers' answers say, for the crates above.
pub mod AnswerLaws
pub mod RefusalLaws
-- A reader refuses in its stated case only.
pub mod CaseLaws
