-- What the contracts of the reading of files cite.
pub mod Counts
