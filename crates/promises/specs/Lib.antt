-- The three demands on the product, and what later requests promise of the whole, in one file.
pub mod Demands
