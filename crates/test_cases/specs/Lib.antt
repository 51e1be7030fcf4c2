-- Document 01's cases A to L, as one list, and the judge's limits.
pub mod JudgeCases
pub mod Cases
-- The cases of the local meaning (02, L7).
pub mod LocalCases
