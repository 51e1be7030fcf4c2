-- Lean: the lean judge, and when two judges agree. Promise: what it promises with the exact summary of an outline.
pub mod Lean
pub mod Promise
