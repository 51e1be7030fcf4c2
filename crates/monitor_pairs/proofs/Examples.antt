-- "After reading one reference and driving from one, use no others" (02, L10), computed: action 1 reads, 2 drives, 3 uses.
use Prim.Native.Nat.{ℕ, ◌+◌, ◌*◌}
use mathlib.Core.Path.{◌≡◌, refl, ap, ◌∙◌}
use mathlib.Core.List.{List, [], ◌∷◌}
use lib.Dec.{lit<, lit≤}
use lib.ListN.{replicate}
use Rattle.usage.specs.declared.Edge.{Edge}
use Rattle.usage.specs.Tables.{from}
use Rattle.automaton.specs.Mask.{has, single, union}
use Rattle.automaton.specs.Move.{targets, image, move_by}
use Rattle.automaton.specs.Code.{stay_rows_lem}
use Rattle.monitor_sets.specs.Instances.{unseen, instances}
use Rattle.monitor_pairs.specs.Pairs.{pair_places, pair_at, event_pairs}
use Rattle.monitor_pairs.specs.Tracked.{rows_for, event_ways}
use Rattle.monitor_pairs.proofs.RunLaws.{at-replicate}
use Rattle.monitor_pairs.proofs.GatherLaws.{event-at}

edge : (q a o t : ℕ) → Edge
edge q a o t = record { policy = 0; «from» = q; action = a; on = o; who = 0; to = t }

-- read x, then drive y, then use neither: 6
policy : List Edge
policy = edge 0 1 1 1 ∷ edge 1 2 3 2 ∷ edge 2 3 2 6 ∷ []

-- reading r moves state 0 where r is x, also where it is x = y
read_first : (event_ways policy 0 1 16).first ≡ 2 ∷ 2 ∷ 4 ∷ 8 ∷ 16 ∷ 32 ∷ 64 ∷ 128 ∷ []
unfolding event_ways rows_for policy edge from image targets single
read_first = refl

read-both : (event_ways policy 0 1 16).both ≡ 2 ∷ 2 ∷ 4 ∷ 8 ∷ 16 ∷ 32 ∷ 64 ∷ 128 ∷ []
unfolding event_ways rows_for policy edge from image targets single
read-both = refl

read-second : (event_ways policy 0 1 16).second ≡ stay_rows_lem
unfolding event_ways rows_for policy edge from image targets single
read-second = refl

-- driving r moves state 1 where r is y, also where it is x = y
drive-second : (event_ways policy 0 2 16).second ≡ 1 ∷ 4 ∷ 4 ∷ 8 ∷ 16 ∷ 32 ∷ 64 ∷ 128 ∷ []
unfolding event_ways rows_for policy edge from image targets single
drive-second = refl

drive-both : (event_ways policy 0 2 16).both ≡ 1 ∷ 4 ∷ 4 ∷ 8 ∷ 16 ∷ 32 ∷ 64 ∷ 128 ∷ []
unfolding event_ways rows_for policy edge from image targets single
drive-both = refl

drive-first : (event_ways policy 0 2 16).first ≡ stay_rows_lem
unfolding event_ways rows_for policy edge from image targets single
drive-first = refl

-- using r offends where r is neither x nor y, and there alone
use-neither : (event_ways policy 0 3 16).neither ≡ 1 ∷ 2 ∷ 64 ∷ 8 ∷ 16 ∷ 32 ∷ 64 ∷ 128 ∷ []
unfolding event_ways rows_for policy edge from image targets single
use-neither = refl

use-second : (event_ways policy 0 3 16).second ≡ stay_rows_lem
unfolding event_ways rows_for policy edge from image targets single
use-second = refl

-- From the start, reading 16, at place 18: the pairs with it as x are in state 1, the unused partner among them; the others in state 0.
abbrev begin : List ℕ
begin = replicate pair_places 1

abbrev read : List ℕ
read = event_pairs (event_ways policy 0 1 16) 18 19 begin

with-unseen : pair_at read 18 unseen ≡ 2
unfolding event_ways rows_for policy edge from image targets single move_by union has
with-unseen =
    event-at (event_ways policy 0 1 16) 18 19 begin 18 unseen (lit< tt) (lit≤ tt) (lit< tt)
    ∙ ap (λ (m : ℕ). move_by (event_ways policy 0 1 16).first 0 m) (at-replicate pair_places 1 (18 * instances + unseen) (lit< tt))

with_itself : pair_at read 18 18 ≡ 2
unfolding event_ways rows_for policy edge from image targets single move_by union has
with_itself =
    event-at (event_ways policy 0 1 16) 18 19 begin 18 18 (lit< tt) (lit≤ tt) (lit< tt)
    ∙ ap (λ (m : ℕ). move_by (event_ways policy 0 1 16).both 0 m) (at-replicate pair_places 1 (18 * instances + 18) (lit< tt))

as-second : pair_at read unseen 18 ≡ 1
unfolding event_ways rows_for policy edge from image targets single move_by union has
as-second =
    event-at (event_ways policy 0 1 16) 18 19 begin unseen 18 (lit< tt) (lit≤ tt) (lit< tt)
    ∙ ap (λ (m : ℕ). move_by (event_ways policy 0 1 16).second 0 m) (at-replicate pair_places 1 (unseen * instances + 18) (lit< tt))
