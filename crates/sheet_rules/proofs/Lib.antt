-- The laws of the refusals of a whole table, for the proofs of this crate and of callers with a rule of their own.
pub mod FaultLaws
-- The laws of the rules of a node, for the proofs of this crate and of those above it.
pub mod RuleLaws
-- The laws of a table of nodes, for the proofs of this crate and of those above it.
pub mod NodeLaws
pub mod ChildLaws
pub mod CountLaws
