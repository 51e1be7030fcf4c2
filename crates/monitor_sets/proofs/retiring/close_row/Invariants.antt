-- `close_row` meets its contract. The invariant: the places from k + at to below j have what stood behind them.
use Prim.Native.Nat.{◌+◌}
use mathlib.Core.Path.{◌≡◌}
use lib.ListN.{length}
use Rattle.usage.specs.Tables.{from}
use Rattle.monitor_sets.specs.Instances.{set_places}
use Rattle.monitor_sets.proofs.ClosingLaws.{closed_to}
use Rattle.monitor_sets.proofs.retiring.close_row.Given as goal

abbrev pub invariant-loop-j : goal.invariant-loop-j
invariant-loop-j l = (length l.sets ≡ set_places) × (l.sets ≡ from (closed_to set_places (l.k + l.at) l.initial.sets l.j) 0 set_places)
