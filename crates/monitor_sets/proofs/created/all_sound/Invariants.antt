-- `all_sound` meets its contract. The invariant: the numbers from i on are sound, and the endings of all of them are seen.
use Prim.Native.Nat.{ℕ, ◌%◌, ◌<◌, ◌≤◌}
use mathlib.Core.Bool.{true, false, ◌&&◌}
use mathlib.Core.Path.{◌≡◌}
use lib.ListN.{length, get_or, drop}
use Rattle.usage.specs.Tests.{every}
use Rattle.monitor_sets.specs.Created.{dynamic, distinct}
use Rattle.monitor_sets.specs.Code.{endings}
use Rattle.monitor_sets.proofs.created.all_sound.Given as goal

abbrev pub invariant-loop-i : goal.invariant-loop-i
invariant-loop-i l =
    ((every dynamic (drop l.i l.live) && distinct (drop l.i l.live)) ≡ true)
    × ((length l.seen ≡ endings)
    × ((j : ℕ) → l.i ≤ j → j < length l.live → get_or l.seen (get_or l.live j 0 % endings) false ≡ true))
