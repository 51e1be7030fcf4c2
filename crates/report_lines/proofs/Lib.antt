-- The laws of the definitions in specs/.
pub mod DecimalLaws
pub mod DecimalValue
pub mod PutLaws
pub mod FitLaws
pub mod RowLaws
