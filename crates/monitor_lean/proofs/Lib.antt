-- The lean judge answers as the full one; the policies that a step is judged by, as a set; what a refusal leaves.
pub mod LeanLaws
pub mod ByteLaws
pub mod KeptLaws
