-- What a line of values looks like, as rules. proofs/ has that `read` of Line.antt reads exactly these lines.
use Rattle.std.specs.Prelude.{ℕ, ◌+◌, ◌-◌, ◌*◌, ◌≤◌, ◌≡◌, List, [], ◌∷◌, ◌++◌}
use Rattle.usage.specs.Limits.{most_digits}
use Rattle.sheet_bytes.specs.Class.{class_of}

-- n digits with the number v
pub data Digits : ℕ → ℕ → List ℕ → Type 0 where
  no_digit : Digits 0 0 []
  one_more : {n v : ℕ} {bs : List ℕ} (b : ℕ) → class_of b ≡ 0 → Digits n v bs → Digits (n + 1) (v * 10 + (b - 48)) (bs ++ (b ∷ []))

-- "Let a value have up to ten digits" (02, L9); "leading zeros allowed"
pub record Value (v : ℕ) (bs : List ℕ) : Type 0 where
  pub count : ℕ
  pub some_digit : 1 ≤ count
  pub few : count ≤ most_digits
  pub digits : Digits count v bs

-- "one or more spaces"
pub data Spaces : List ℕ → Type 0 where
  one_space : (b : ℕ) → class_of b ≡ 1 → Spaces (b ∷ [])
  further_space : {bs : List ℕ} (b : ℕ) → class_of b ≡ 1 → Spaces bs → Spaces (b ∷ bs)

-- "parted by one or more spaces, none at either end of a line"
pub data Values : List ℕ → List ℕ → Type 0 where
  last_value : {v : ℕ} {bs : List ℕ} → Value v bs → Values (v ∷ []) bs
  next_value : {v : ℕ} {vs bs sp cs : List ℕ} → Value v bs → Spaces sp → Values vs cs → Values (v ∷ vs) (bs ++ (sp ++ cs))
