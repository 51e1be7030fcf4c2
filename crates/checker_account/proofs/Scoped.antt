-- What the theorem on the finite account asks of an outline.
use Prim.Native.Nat.{ℕ, ◌<◌, ◌≤◌}
use mathlib.Core.Path.{◌≡◌}
use mathlib.Core.List.{List}
use mathlib.Core.Logic.{◌⊎◌}
use Rattle.usage.specs.declared.Node.{Node}
use Rattle.usage.specs.Limits.{statics, most_names}
use Rattle.usage.specs.Outline.{Is, static_event, named_event, sequence, choice, loop, back, fresh, sandbox}

-- `scope k m`: name m is in scope at node k. An event is no creation, a name is used in scope only, and going from a node to what runs
-- next brings no name into scope but the one that a fresh node gives.
pub record Scoped (ns : List Node) (scope : ℕ → ℕ → Type 0) : Type 0 where
  pub static-acts : {k a s : ℕ} → Is ns k (static_event a s) → 1 ≤ a
  pub name-acts : {k a n : ℕ} → Is ns k (named_event a n) → 1 ≤ a
  pub static-small : {k a s : ℕ} → Is ns k (static_event a s) → s < statics
  pub name-small : {k a n : ℕ} → Is ns k (named_event a n) → n < most_names
  pub fresh-small : {k n b : ℕ} → Is ns k (fresh n b) → n < most_names
  pub root : {m : ℕ} → scope 0 m → ⊥
  pub used : {k a n : ℕ} → Is ns k (named_event a n) → scope k n
  pub first : {k a b : ℕ} → Is ns k (sequence a b) → (m : ℕ) → scope a m → scope k m
  pub second : {k a b : ℕ} → Is ns k (sequence a b) → (m : ℕ) → scope b m → scope k m
  pub left : {k a b : ℕ} → Is ns k (choice a b) → (m : ℕ) → scope a m → scope k m
  pub right : {k a b : ℕ} → Is ns k (choice a b) → (m : ℕ) → scope b m → scope k m
  pub body : {k a : ℕ} → Is ns k (loop a) → (m : ℕ) → scope a m → scope k m
  pub again : {k a : ℕ} → Is ns k (back a) → (m : ℕ) → scope a m → scope k m
  pub given : {k n b : ℕ} → Is ns k (fresh n b) → (m : ℕ) → scope b m → (m ≡ n) ⊎ scope k m
  pub inside : {k s b : ℕ} → Is ns k (sandbox s b) → (m : ℕ) → scope b m → scope k m
