-- The numbers of the judge, of the readers and of the check.
pub mod JudgeNumbers
pub mod SheetNumbers
pub mod CheckNumbers
pub mod CodeNumbers
pub mod ExpressionPromise
-- What later requests promise, and what the programs read.
pub mod RenumberedLaws
pub mod RewrittenLaws
pub mod DeskPromise
pub mod ReadLaws
-- All of it.
pub mod DemandLaws
