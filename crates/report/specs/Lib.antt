-- What the programs print ("The two programs"; 02, L1, L11, L12 and L13). Nothing is proved here; the laws are in proofs/.
pub mod Output
pub mod Trace
pub mod Outline
pub mod Counterexample
pub mod Policies
pub mod Expression
pub mod Summary
