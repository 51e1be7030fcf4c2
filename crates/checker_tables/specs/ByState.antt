-- Eight sets at once, one for each state of a start.
use Rattle.std.specs.Prelude.{ℕ, ◌<◌, ◌≡◌, List, length, get_or}
use Rattle.usage.specs.Limits.{states}

-- the list has a place for each state, and the first n of them hold f 0, f 1, …
pub record ByState (n : ℕ) (f : ℕ → ℕ) (l : List ℕ) : Type 0 where
  pub len : length l ≡ states
  pub held : (q : ℕ) → q < n → get_or l q 0 ≡ f q
