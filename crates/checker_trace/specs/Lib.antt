-- Steps: a trace as numbers. Answer: what is answered, and written in all. Code: what the crate's own functions compute.
pub mod Steps
pub mod Answer
pub mod Code
