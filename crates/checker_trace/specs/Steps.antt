-- A trace as numbers: three to a step, as in a trace sheet, the oldest first.
use Rattle.std.specs.Prelude.{ℕ, ◌*◌, List, [], ◌∷◌, ◌++◌, length, drop}
use Rattle.usage.specs.Limits.{step_fields}
use Rattle.usage.specs.Past.{Step, event, opening, closing, retiring, Past}

-- "kind 0 event (action 0 to 31, resource ..), 1 open (policy 0 to 7, 0), 2 close (policy 0 to 7, 0)"; "step kind 3, retire (a the
-- resource, b 0)" (02, L8), which no run makes
abbrev pub three : Step → List ℕ
three (event a r) = 0 ∷ a ∷ r ∷ []
three (opening p) = 1 ∷ p ∷ 0 ∷ []
three (closing p) = 2 ∷ p ∷ 0 ∷ []
three (retiring r) = 3 ∷ r ∷ 0 ∷ []

unfoldable pub numbers : Past → List ℕ
numbers [] = []
numbers (s ∷ past) = numbers past ++ three s

-- the table t with a trace written into it: "Places after the trace keep their contents"
unfoldable pub laid : List ℕ → Past → List ℕ
laid t past = numbers past ++ drop (step_fields * length past) t
