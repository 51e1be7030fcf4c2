-- What a reader must believe of an outline typed as an expression (02, L13), in its order. Nothing is proved here; the laws are in proofs/.
pub mod Tree
pub mod Grammar
pub mod Places
pub mod Outcome
pub mod Nodes
pub mod Meaning
-- The reader as a definition that computes, and as rules.
pub mod Reader
pub mod Rules
