-- An answer is told by the trace that is found; no two explanations of the same tables differ but in the trace.
pub mod ExplainedLaws
pub mod ExplanationLaws
