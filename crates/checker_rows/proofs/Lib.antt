-- Where there is room for it, the table is the one that the search reads.
pub mod WholeLaws
-- The rows of an event.
pub mod SideLaws
-- What is left of a match.
pub mod OtherLaws
