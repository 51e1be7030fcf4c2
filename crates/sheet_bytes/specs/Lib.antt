-- Lines, and the values of a line, in document 01's order ("Sheets"). Nothing is proved here; the laws are in proofs/.
pub mod Class
pub mod Line
-- The same lines as rules.
pub mod Grammar
-- What is wrong with the others.
pub mod Fault
-- What only the functions compute.
pub mod Code
