use mathlib.Core.Path.{◌≡◌}
use mathlib.Core.List.{List}
use Prim.Native.Nat.{ℕ, ◌+◌, ◌/◌}
use Rattle.outline_nodes.specs.declared.NodeForm.{NodeForm}
use Rattle.outline_nodes.specs.Said.{said_by}
use Rattle.checker_account.specs.declared.Watch.{Watch}
use Rattle.checker_account.specs.declared.Resources.{Resources}
use Rattle.checker_account.specs.Tables.{rows_in}
use Rattle.checker_account.specs.Filling.{repeat, grown, by_open, pass, odd, Wide}
use Rattle.checker_tables.proofs.arrivals.pass_node.Given as goal

abbrev pub steps : List ℕ → List ℕ → List ℕ → Resources → Watch → ℕ → ℕ → NodeForm → ℕ → List ℕ → List ℕ
steps opened shut rows x w l k f i =
    pass w.local (rows_in rows) w.policy x (by_open opened shut (odd i)) k (said_by f) (odd i) (l + i / 2)

abbrev pub invariant-loop-i : goal.invariant-loop-i
invariant-loop-i l =
    (l.u ≡ repeat (steps l.ends.opened.now l.ends.shut.now l.s.rows.now l.s.resources l.w l.l l.s.node l.s.form) l.i l.initial.u) × ((l.changed ≡ grown l.initial.u l.u) × (Wide l.initial.u → Wide l.u))
