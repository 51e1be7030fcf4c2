-- The laws that the proofs of the functions cite.
pub mod RunLaws
pub mod EventLaws
pub mod GatherLaws
pub mod TwoLaws
pub mod RetireLaws
-- The sets hold what the instances may be in.
pub mod TrackedLaws
pub mod SideLaws
pub mod Examples
-- Which policies are pair policies.
pub mod WhichLaws
-- The ways of an event, out of the rows for all policies.
pub mod WaysLaws
-- Both blocks.
pub mod BlockLaws
pub mod EachLaws
pub mod ByteLaws
pub mod SameWays
