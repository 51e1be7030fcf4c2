use Rattle.checker_lengths.proofs.EntryLaws.{plus_none, plus-some}
use native.Mathlib.Omega.{arith}
use Rattle.checker_lengths.proofs.entries.plus.Goals as goal

pub returns-then-a-gt-MOST : goal.returns-then-a-gt-MOST
returns-then-a-gt-MOST c = plus_none _ _ (omega arith)

pub returns : goal.returns
returns c = plus-some _ _ (omega arith)
