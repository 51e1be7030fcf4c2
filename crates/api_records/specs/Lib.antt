-- Records: what the judge promises of edges lent as records. Flat: their flat table, over which the check's own promise is given.
-- Code: what the functions compute.
pub mod Flat
pub mod Records
pub mod Code
