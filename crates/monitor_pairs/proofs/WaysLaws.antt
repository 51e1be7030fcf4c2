-- The four tables of an event's rows, taken apart for a policy, are its ways.
use Prim.Native.Nat.{ℕ, ◌+◌, ◌*◌, ◌<◌}
use mathlib.Core.Path.{◌≡◌}
use mathlib.Core.Bool.{Bool, true, false}
use mathlib.Core.List.{List}
use borrow.Author.Tests.{lt-ltb}
use lib.ListN.{get_or}
use Rattle.usage.specs.declared.Edge.{Edge}
use Rattle.usage.specs.Limits.{policies, states}
use Rattle.automaton.specs.Move.{image, fires_at, rows_at}
use Rattle.automaton.specs.Code.{policy_rows_lem, rows_in}
use Rattle.automaton.proofs.PlaceLaws.{row-placed}
use Rattle.monitor_pairs.specs.Tracked.{rows_for, event_ways}
use Rattle.monitor_pairs.specs.Code.{ways_in}
use Rattle.monitor_pairs.proofs.RunLaws.{same_from}

module _ (es : List Edge) (p a r : ℕ) (h : p < policies) where
  rows-for : (x y : Bool) → policy_rows_lem (rows_at es a r x y) p ≡ rows_for es p a r x y
  unfolding policy_rows_lem rows_for
  rows-for x y =
      same_from (λ q. get_or (rows_at es a r x y) (p * states + q) 0) (λ q. image (fires_at p a r x y) es q) states
      (λ q l. row-placed es a r x y p q h l)

  pub ways-in : ways_in (rows_at es a r false false) (rows_at es a r true false) (rows_at es a r false true) (rows_at es a r true true) p
      ≡ event_ways es p a r
  unfolding ways_in rows_in event_ways
  ways-in = rw (lt-ltb p policies h, rows-for false false, rows-for true false, rows-for false true, rows-for true true)
