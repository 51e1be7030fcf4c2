-- The lines that the programs print ("The two programs"). Nothing is proved here; the laws are in proofs/.
pub mod Decimal
pub mod Lines
-- What is done with a lent buffer.
pub mod Put
