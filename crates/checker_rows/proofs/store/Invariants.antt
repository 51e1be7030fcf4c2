use mathlib.Core.Path.{◌≡◌}
use Rattle.checker_account.specs.Filling.{repeat}
use Rattle.checker_account.specs.RowTable.{store_row}
use Rattle.checker_rows.proofs.store.Given as goal

abbrev pub invariant-loop-q : goal.invariant-loop-q
invariant-loop-q l = l.rows ≡ repeat (store_row l.node l.way l.policy l.own l.other) l.q l.initial.rows
