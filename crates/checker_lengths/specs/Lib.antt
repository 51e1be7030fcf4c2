-- Entries: the layout of a table of lengths. Offers: what the rules give. Filling: how the table is filled. Held: what it then holds.
-- Code: what the crate's own functions do.
pub mod Entries
pub mod Offers
pub mod Filling
pub mod Held
pub mod Code
