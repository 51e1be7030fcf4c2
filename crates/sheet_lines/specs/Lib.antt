-- How a sheet is read, in document 01's order ("Sheets", "Numbers by who brings them about"). Nothing is proved here; the laws
-- are in proofs/.
pub mod Bytes
pub mod Sheet
pub mod Sheets
pub mod Answer
-- The same refusals, as rules.
pub mod Cases
-- What only the functions compute.
pub mod Code
