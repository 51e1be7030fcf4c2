-- The rules of an outline, and document 01's numbers for the refusal of a table of nodes. Nothing is proved here; the laws are in
-- proofs/.
pub mod Rules
pub mod Faults
-- What only the functions compute.
pub mod Code
