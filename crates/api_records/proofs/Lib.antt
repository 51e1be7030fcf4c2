-- That the flat table holds the edges of the records.
pub mod LoopLaws
pub mod FlatLaws
-- That the judge and the check over records answer as over their flat table.
pub mod TableLaws
pub mod Promises
