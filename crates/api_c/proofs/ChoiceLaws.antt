-- A number that is a choice of past, and one that is none.
use Prim.Native.Nat.{ℕ, ◌<◌, ◌≤◌}
use mathlib.Core.Path.{◌≡◌, refl}
use mathlib.Core.Bool.{Bool}
use mathlib.Core.List.{List}
use native.Mathlib.Omega.{arith}
use borrow.Author.Tests.{lt-ltb, le-ltb}
use lib.ListN.{length}
use Rattle.usage.specs.Limits.{policies}
use Rattle.checker_trace.specs.Answer.{most_numbers}
use Rattle.std.specs.Prelude.{Err}
use Rattle.usage.specs.declared.Reason.TheVariants.{Room, Table}
use Rattle.api_c.specs.Choice.{choice_of}
use Rattle.api_c.specs.Check.{Chosen, no_choice, chosen, refusal_without_choice}
use Rattle.api_c.specs.Summary.{number_without_choice}

module _ {A : Type 0} {choice : ℕ} {other : A} {Right : Bool → A → Type 0} where
  pub right-none : {a : A} → 1 < choice → Chosen choice other Right a → other ≡ a
  right-none h (no_choice k) = refl
  right-none h (chosen k r) = absurd (omega arith)

  pub right-chosen : {a : A} → choice ≤ 1 → Chosen choice other Right a → Right (choice_of choice) a
  right-chosen h (no_choice k) = absurd (omega arith)
  right-chosen h (chosen k r) = r

pub refusal-small : (t : List ℕ) → length t < most_numbers → Err Room ≡ refusal_without_choice t
unfolding refusal_without_choice
refusal-small t l = simp (lt-ltb (length t) most_numbers l)

pub refusal-roomy : (t : List ℕ) → most_numbers ≤ length t → Err Table ≡ refusal_without_choice t
unfolding refusal_without_choice
refusal-roomy t l = simp (le-ltb (length t) most_numbers l)

pub number_small : (t : List ℕ) → length t < policies → 40 ≡ number_without_choice t
unfolding number_without_choice
number_small t l = simp (lt-ltb (length t) policies l)

pub number-roomy : (t : List ℕ) → policies ≤ length t → 41 ≡ number_without_choice t
unfolding number_without_choice
number-roomy t l = simp (le-ltb (length t) policies l)
