-- The parts of the state, each with its definitions and its share of 42.
pub mod Tracked
pub mod Created
pub mod Unclosed
pub mod Judge
pub mod Looked
pub mod Sound
pub mod Lent
pub mod Represents
pub mod Promise
pub mod Renamed
pub mod Others
pub mod Stored
pub mod Code
