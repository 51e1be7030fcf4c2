-- Meanings that are lost: once x is created, and once a name is given to another resource.
use Prim.Native.Nat.{ℕ, zero, suc, ◌+◌}
use mathlib.Core.Path.{◌≡◌, refl, ap}
use mathlib.Core.Bool.{Bool, true, cond}
use native.Mathlib.Omega.{arith}
use native.Mathlib.Numerals.{add-one}
use lib.Dec.{eqb}
use borrow.Author.Tests.{ne_eqb}
use Rattle.checker_account.specs.Tables.{unnamed, meaning_after, forgotten}
use Rattle.checker_tables.specs.Search.{lost}

pub lost-created : (m : ℕ) → lost m 0 ≡ meaning_after m true
unfolding lost
lost-created zero = refl
lost-created (suc m) = ap (λ (b : Bool). cond b unnamed (suc m)) (ne_eqb (suc m) 0 (λ e. absurd (omega arith)))

pub lost-name : (m n : ℕ) → lost m (n + 1) ≡ forgotten m n
unfolding lost forgotten
lost-name m n = ap (λ (j : ℕ). cond (eqb m j) unnamed m) (add-one n)
