-- Explained: what the check with a counterexample promises.
pub mod Explained
