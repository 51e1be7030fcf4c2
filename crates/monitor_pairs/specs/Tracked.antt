-- What the sets of a pair policy hold, over places: `stands i x` says that place i stands for the number x.
use Rattle.std.specs.Prelude.{ℕ, ◌<◌, ◌≡◌, Bool, true, false, cond, List, [], ◌∷◌, ◌↔◌, ltb}
use Rattle.usage.specs.declared.Edge.{Edge}
use Rattle.usage.specs.Limits.{states}
use Rattle.usage.specs.Past.{Past}
use Rattle.usage.specs.Placed.{At}
use Rattle.usage.specs.Tables.{from}
use Rattle.automaton.specs.Mask.{has}
use Rattle.automaton.specs.Move.{image, fires_at}
use Rattle.monitor_sets.specs.Instances.{unseen, instances}
use Rattle.monitor_pairs.specs.declared.Ways.{Ways}
use Rattle.monitor_pairs.specs.Pairs.{pair_at}

-- the place that column j is of, where n places are in use: one that is not in use has what that of the unseen ones has
abbrev pub seat_in : ℕ → ℕ → ℕ
seat_in n j = cond (ltb j n) j unseen

-- "has an instance for each x and y, equal ones too": the set at each two places, of the first n rows, holds exactly the states that some
-- instance there may be in
abbrev pub TracksPairs : Bool → List Edge → ℕ → (ℕ → ℕ → Type 0) → Past → ℕ → List ℕ → Type 0
TracksPairs local es p stands past n sets =
    (i j q : ℕ) → i < n → j < instances → q < states
    → (has (pair_at sets i j) q ≡ true) ↔ At local es p stands past (i ∷ seat_in n j ∷ []) q

-- where each state of policy p goes by the event a(r), in one of the four ways
unfoldable pub rows_for : List Edge → ℕ → ℕ → ℕ → Bool → Bool → List ℕ
rows_for es p a r first second = from (λ q. image (fires_at p a r first second) es q) 0 states

unfoldable pub event_ways : List Edge → ℕ → ℕ → ℕ → Ways
event_ways es p a r = record {
  neither = rows_for es p a r false false;
  first = rows_for es p a r true false;
  second = rows_for es p a r false true;
  both = rows_for es p a r true true;
}
