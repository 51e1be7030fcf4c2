-- Where a text stops being the beginning of a line of the grammar, and where a bracket is too deep (02, L13: refusals 15 and 16).
use Rattle.std.specs.Prelude.{ℕ, zero, suc, ◌+◌, ◌<◌, ◌≡◌, Bool, ◌||◌, List, [], ◌∷◌, ◌⊎◌, eqb}
use Rattle.std.proofs.Math.Option.{some}
use Rattle.std.proofs.Math.ListN.{get_elem?}
use Rattle.usage.specs.Past.{add_if}
use Rattle.sheet_grammar.specs.Tree.{Tree}
use Rattle.sheet_grammar.specs.Grammar.{ExpressionLine}

-- Two texts have the same at each place below i: the same byte, or both have ended. Place i of a text is `get_elem? text i`: a byte, or
-- `none` at the end.
abbrev pub Like : List ℕ → List ℕ → ℕ → Type 0
Like s s' i = (k : ℕ) → k < i → get_elem? s k ≡ get_elem? s' k

-- some line of the grammar, of any depth, has at the places below i what the text has there
pub record Could (text : List ℕ) (i : ℕ) : Type 0 where
  pub deep : ℕ
  pub line : List ℕ
  pub tree : Tree
  pub is_line : ExpressionLine deep line tree
  pub like : Like line text i

-- "15 at the first byte, or the end, that no line of the grammar, its depth apart, could have there": that place
pub record Wrong (text : List ℕ) (i : ℕ) : Type 0 where
  pub before : Could text i
  pub here : Could text (suc i) → ⊥

-- ── Depth ──

-- how many of the first i bytes pass a test
unfoldable pub among : (ℕ → Bool) → List ℕ → ℕ → ℕ
among test s zero = 0
among test [] (suc i) = 0
among test (b ∷ s) (suc i) = add_if (test b) (among test s i)

-- the opening brackets, and the closing ones, of either kind
abbrev pub opens_bracket : ℕ → Bool
opens_bracket b = eqb b 40 || eqb b 123

abbrev pub closes_bracket : ℕ → Bool
closes_bracket b = eqb b 41 || eqb b 125

-- a digit stands just before place i
abbrev pub AfterDigit : List ℕ → ℕ → Type 0
AfterDigit s i = (j : ℕ) × (d : ℕ) × (i ≡ suc j) × (d < 10) × (get_elem? s j ≡ some (48 + d))

-- An opening bracket of depth n stands at place i. A round one after a digit is an event's, and those don't nest; each of them is closed
-- before the next bracket that nests, so all may be counted.
pub record Nests (s : List ℕ) (i n : ℕ) : Type 0 where
  pub bracket : ((get_elem? s i ≡ some 40) × (AfterDigit s i → ⊥)) ⊎ (get_elem? s i ≡ some 123)
  pub depth : among opens_bracket s (suc i) ≡ n + among closes_bracket s i
