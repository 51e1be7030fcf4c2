-- What reading an expression gives. Nothing is proved here; the laws are in proofs/.
pub mod Expression
-- What only the functions compute.
pub mod Code
