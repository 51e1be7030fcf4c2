pub mod Mask
pub mod PairSet
pub mod Move
pub mod Code
