-- The laws of the definitions in specs/, for the proofs of this crate and of those above it.
pub mod OrderLaws
-- What is written is read back.
pub mod FieldLaws
pub mod TextLaws
pub mod WriterLaws
pub mod Examples
-- What the functions compute: keys, their order in an array, and the lines of the edges.
pub mod KeyLaws
pub mod ArrayLaws
pub mod LineLaws
