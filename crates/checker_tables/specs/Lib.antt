-- What the functions compute, and their answers for all inputs at all. The tables and how they are filled are checker_account's.
pub mod Search
-- The marks of a policy.
pub mod Marks
-- Eight sets at once.
pub mod ByState
-- Nodes that are to be settled again.
pub mod Work
