-- Rows: the table that is filled.
pub mod Rows
