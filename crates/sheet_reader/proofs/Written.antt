-- A sheet written from its values: each value in as many digits as are allowed, parted by one space.
use Prim.Native.Nat.{ℕ, zero, suc, ◌+◌, ◌/◌, ◌%◌}
use mathlib.Core.List.{List, [], ◌∷◌, ◌++◌, map, flatten}
use Rattle.usage.specs.Limits.{most_digits}
use Rattle.sheet_lines.specs.Sheet.{Sheet}

-- the last n digits of a value
unfoldable pub digits : ℕ → ℕ → List ℕ
digits zero v = []
digits (suc n) v = digits n (v / 10) ++ ((48 + v % 10) ∷ [])

-- a value and those after it in a line
unfoldable pub written-values : ℕ → List ℕ → List ℕ
written-values v [] = digits most_digits v
written-values v (w ∷ vs) = digits most_digits v ++ (32 ∷ written-values w vs)

abbrev pub written-line : List ℕ → List ℕ
written-line [] = 10 ∷ []
written-line (v ∷ vs) = written-values v vs ++ (10 ∷ [])

abbrev pub written : Sheet → List (List ℕ) → List ℕ
written s rows = s.names ++ flatten (map written-line rows)
