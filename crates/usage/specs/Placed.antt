-- Instances by the places of their resources, for a judge that keeps one set of states for each list of places. `has i x` says that place
-- i stands for the number x: a place may stand for many (all that never occurred; all that are not live), and a number have several.
use Rattle.std.specs.Prelude.{ℕ, Bool, List, [], ◌∷◌}
use Rattle.usage.specs.declared.Edge.{Edge}
use Rattle.usage.specs.Policy.{Instance, Sees}
use Rattle.usage.specs.Past.{Past, May}

-- place by place, these places stand for these numbers
pub data Placed (has : ℕ → ℕ → Type 0) : List ℕ → List ℕ → Type 0 where
  none_placed : Placed has [] []
  next_placed : {x i : ℕ} {xs places : List ℕ} → has i x → Placed has xs places → Placed has (x ∷ xs) (i ∷ places)

-- Some instance of p at these places may be in state q: what the set that is kept for these places holds.
pub record At (local : Bool) (es : List Edge) (p : ℕ) (has : ℕ → ℕ → Type 0) (past : Past) (places : List ℕ) (q : ℕ) : Type 0 where
  pub resources : List ℕ
  pub fits : Instance es p resources
  pub placed : Placed has resources places
  pub may : May local es p (Sees resources) past q
