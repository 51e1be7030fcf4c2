use Prim.Native.Nat.{◌-◌}
use Rattle.checker_account.specs.Tables.{places_of}
use Rattle.checker_account.specs.Filling.{total, by_open, begins}
use Rattle.checker_tables.specs.Search.{ComesBy}
use Rattle.checker_account.proofs.GrowsLaws.{Filling, most}
use Rattle.checker_tables.proofs.arrivals.fill.Given as goal

abbrev pub invariant-loop-w : goal.invariant-loop-w
invariant-loop-w l =
    Filling (ComesBy l.nodes l.w.local l.rows (by_open l.ends.opened.now l.ends.shut.now) l.w.policy l.w.resources) (begins l.w.resources) l.u

abbrev pub decreases-loop-w : goal.decreases-loop-w
decreases-loop-w l = most (places_of l.w.resources) - total l.u
