pub mod Pairs
pub mod Tracked
pub mod Which
pub mod Blocks
pub mod Code
