-- The laws of the definitions in specs/, for the proofs of this crate and of those above it.
pub mod RangeLaws
-- What the values of a line in range are below.
pub mod BelowLaws
-- Every record of a table passes a test; tables of edges.
pub mod EveryLaws
pub mod EdgeLaws
-- Edges tested eight at a time.
pub mod BlockLaws
