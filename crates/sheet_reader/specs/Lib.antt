-- What the readers answer and store. Nothing is proved here; the laws are in proofs/.
pub mod Readers
-- When a reader refuses, as rules.
pub mod Cases
-- What only the functions compute.
pub mod Code
