-- What is answered to a text before its nodes are numbered: the tree of a line, or 15 or 16 with its place.
use Rattle.std.specs.Prelude.{ℕ, suc, ◌<◌, ◌≤◌, List, length}
use Rattle.sheet_grammar.specs.Tree.{Tree}
use Rattle.sheet_grammar.specs.Grammar.{ExpressionLine}
use Rattle.sheet_grammar.specs.Places.{Could, Wrong, Nests}

-- what was read and the place after it, or the number of a refusal and its place
pub data Out : Type 0 where
  ok : Tree → ℕ → Out
  bad : ℕ → ℕ → Out

-- no bracket before place i is deeper than n
abbrev pub Shallow : ℕ → List ℕ → ℕ → Type 0
Shallow n text i = (j m : ℕ) → j < i → Nests text j m → m ≤ n

-- "15 at the first byte, or the end, that no line of the grammar, its depth apart, could have there, or 16 at an opening bracket of depth
-- 33, the one further left, at a tie 15": n is 32
pub data Outcome (n : ℕ) (text : List ℕ) : Out → Type 0 where
  is_line : {t : Tree} → ExpressionLine n text t → Outcome n text (ok t (length text))
  wrong : {i : ℕ} → Wrong text i → Shallow n text i → Outcome n text (bad 15 i)
  too_deep : {i : ℕ} → Nests text i (suc n) → Could text (suc i) → Shallow n text i → Outcome n text (bad 16 i)
