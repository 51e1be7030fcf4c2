-- The choices by numbers are all of them.
use Prim.Native.Nat.{ℕ, ◌+◌, ◌*◌, ◌/◌, ◌%◌, ◌<◌}
use mathlib.Core.Path.{◌≡◌, refl, ap, ap₂, ◌∙◌}
use mathlib.Core.Bool.{Bool, true, false, cond}
use native.Mathlib.Omega.{arith}
use lib.Dec.{eqb}
use borrow.Author.Tests.{eqb-false, ne_eqb}
use Rattle.usage.proofs.Logic.{by_cases, last-or-lower}
use Rattle.checker_account.specs.Account.{watched, watched_too}
use Rattle.checker_account.specs.declared.Resources.{Resources}
use Rattle.checker_account.specs.Tables.{two_resources}
use Rattle.checker_account.specs.Filling.{Asked, one, two, apart}
use Rattle.checker_account.specs.Choices.{single_count, grid_count, choice_count, choice_at}

how-many-alone : choice_count false ≡ 17
how-many-alone = refl

how-many-pairs : choice_count true ≡ 290
how-many-pairs = refl

pub choice-asked : (pair : Bool) (i : ℕ) → i < choice_count pair → Asked pair (choice_at pair i)
unfolding choice_at
choice-asked false i l = one {x = i} (omega arith)
choice-asked true i l = go (eqb i grid_count) refl
  where
    in-grid : (i ≡ grid_count → ⊥) → i < grid_count
    in-grid d = by_cases (last-or-lower i grid_count l) (λ e. absurd (d e)) (λ m. m)

    go : (b : Bool) → eqb i grid_count ≡ b
        → Asked true (cond b (two_resources watched watched_too) (two_resources (i / single_count) (i % single_count)))
    go true e = apart
    go false e =
        let z = in-grid (eqb-false i grid_count e) in two {x = i / single_count} {y = i % single_count} (omega arith) (omega arith)

-- each choice has a number
pub record Numbered (pair : Bool) (x : Resources) : Type 0 where
  pub number : ℕ
  pub small : number < choice_count pair
  pub same : choice_at pair number ≡ x

pub asked-numbered : {pair : Bool} {x : Resources} → Asked pair x → Numbered pair x
unfolding choice_at
asked-numbered (one {x = a} l) = record { number = a; small = omega arith; same = refl }
asked-numbered (two {x = a} {y = b} l k) = record {
  number = single_count * a + b;
  small = omega arith;
  same =
      ap (λ (z : Bool). cond z (two_resources watched watched_too)
      (two_resources ((single_count * a + b) / single_count) ((single_count * a + b) % single_count)))
      (ne_eqb (single_count * a + b) grid_count (λ e. omega arith))
      ∙ ap₂ (λ (i j : ℕ). two_resources i j) (omega arith) (omega arith);
}
asked-numbered apart = record { number = grid_count; small = omega arith; same = refl }
