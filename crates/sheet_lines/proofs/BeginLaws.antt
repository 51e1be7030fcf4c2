-- What the library says of a text that begins with a list of bytes is what the definition says.
use Prim.Native.Nat.{ℕ}
use mathlib.Core.Path.{◌≡◌, refl, ap}
use mathlib.Core.Bool.{◌&&◌}
use mathlib.Core.List.{List, [], ◌∷◌}
use lib.Dec.{eqb}
use Rattle.std.specs.List as library
use Rattle.sheet_lines.specs.Sheet.{starts_with}

pub begins-same : (names text : List ℕ) → library.starts_with eqb text names ≡ starts_with names text
unfolding starts_with
begins-same [] text = refl
begins-same (b ∷ bs) [] = refl
begins-same (b ∷ bs) (c ∷ cs) = ap (λ r. eqb b c && r) (begins-same bs cs)
