-- Which states a caller may hand over (42), as a rule to read. proofs/SoundLaws has that `state_ok_lem` decides it.
use Rattle.std.specs.Prelude.{ℕ, ◌<◌, ◌≤◌, ◌≡◌}
use mathlib.Core.List.{List, [], ◌∷◌, Memᴰ}
use Rattle.usage.specs.Limits.{statics, resources, policies, most_created, most_unclosed}
use Rattle.usage.specs.Past.{occurrences}
use Rattle.monitor_state.specs.declared.State.{State}
use Rattle.monitor_state.specs.declared.Created.{Created}
use Rattle.monitor_state.specs.declared.Unclosed.{Unclosed}
use Rattle.monitor_state.specs.Judge.{live, remembered, openings_of}

-- no number is listed twice
unfoldable pub Distinct : List ℕ → Type 0
Distinct [] = Unit {0}
Distinct (y ∷ ys) = (Memᴰ y ys → ⊥) × Distinct ys

-- "42 a state with more than 64 resources, one listed twice or outside 16 to" 4,294,967,295 (02, L9); "42 also refuses a highest number below
-- a live one" (02, L8)
pub record LiveOk (c : Created) : Type 0 where
  pub few : c.count ≤ most_created
  pub in_range_lem : (x : ℕ) → Memᴰ x (live c) → (statics ≤ x) × (x < resources)
  pub apart : Distinct (live c)
  pub none_above : (x : ℕ) → Memᴰ x (live c) → x ≤ c.highest

-- "42 also refuses an order longer than 64 or one that disagrees with the counts" (02, L6): one with an entry that is no policy, or in which
-- a policy stands another number of times than its count says
pub record UnclosedOk (u : Unclosed) : Type 0 where
  pub short : u.depth ≤ most_unclosed
  pub of_policies : (p : ℕ) → Memᴰ p (remembered u) → p < policies
  pub agrees : (p : ℕ) → p < policies → occurrences p (remembered u) ≡ openings_of u p

-- Nothing is asked of what is tracked.
pub record StateOk (s : State) : Type 0 where
  pub created : LiveOk s.created
  pub unclosed : UnclosedOk s.unclosed
