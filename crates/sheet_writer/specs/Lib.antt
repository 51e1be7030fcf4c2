-- A policy sheet written again (02, L12). Nothing is proved here; the laws are in proofs/.
pub mod Order
pub mod Text
pub mod Writer
pub mod Promise
-- What only the functions compute.
pub mod Code
