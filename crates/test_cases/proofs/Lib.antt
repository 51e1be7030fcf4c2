-- Document 01's cases A to L are right (AllRight): those of the judge by computing its definition, F's instances and L's traces from
-- the definitions, those of the check by computing its search.
pub mod JudgeRight
pub mod Others
pub mod Searches
pub mod ChecksIL
pub mod OnlyEmpty
pub mod AllRight
-- The cases of the local meaning.
pub mod LocalRight
