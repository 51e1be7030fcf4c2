-- The laws of the definitions in specs/, for the proofs of this crate.
pub mod OutputLaws
pub mod DetailLaws
pub mod TraceLaws
pub mod OutlineLaws
pub mod NumberedLaws
pub mod CounterexampleLaws
pub mod PoliciesLaws
pub mod ExpressionLaws
pub mod SummaryLaws
-- What is printed for two accepted sheets is right.
pub mod TraceRight
-- What is printed of a counterexample is read back as its steps.
pub mod CounterexampleRead
-- What is printed of an expression is an outline sheet, which is read back as its table.
pub mod ExpressionRead
