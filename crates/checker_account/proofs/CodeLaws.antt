-- What the code's tests say of a start, and the bounds of the places that it reads.
use Prim.Native.Nat.{ℕ, zero, suc, ◌+◌, ◌*◌, ◌%◌, ◌<◌}
use mathlib.Core.Path.{◌≡◌, refl, ap, ◌∙◌}
use mathlib.Core.Bool.{Bool, true, false, ◌||◌, cond}
use native.Mathlib.Numerals.{add-one}
use native.Mathlib.Omega.{arith}
use lib.Dec.{eqb}
use Rattle.usage.specs.Tests.{some_below}
use Rattle.checker_account.specs.Tables.{made, forgotten, meaning_after, kept, unnamed}
use Rattle.checker_account.specs.Tables.{meanings}

-- ── A meaning that is 0, and one that is not ──

pub kept-none : (m v : ℕ) → m ≡ 0 → v % 256 ≡ kept m v
kept-none zero v e = refl
kept-none (suc m) v e = absurd (omega arith)

pub kept-some : (m v : ℕ) → (m ≡ 0 → ⊥) → v % 256 * 256 ≡ kept m v
kept-some zero v d = absurd (d refl)
kept-some (suc m) v d = refl

pub after-false : (m : ℕ) → meaning_after m false ≡ m
after-false zero = refl
after-false (suc m) = refl

pub made_none : (m : ℕ) → m ≡ 0 → made m ≡ false
made_none zero e = refl
made_none (suc m) e = absurd (omega arith)

pub made_some : (m : ℕ) → (m ≡ 0 → ⊥) → made m ≡ true
made_some zero d = absurd (d refl)
made_some (suc m) d = refl

-- ── Bounds ──

pub forgotten-lt : (m n : ℕ) → m < meanings → forgotten m n < meanings
unfolding forgotten
forgotten-lt m n h = go (eqb m (suc n))
  where
    go : (b : Bool) → cond b unnamed m < meanings
    go true = omega arith
    go false = h

pub after-lt : (m : ℕ) (c : Bool) → m < meanings → meaning_after m c < meanings
after-lt zero false h = h
after-lt zero true h = omega arith
after-lt (suc m) c h = h

-- ── A search ──

pub none_more : (f : ℕ → Bool) (n : ℕ) → some_below f n ≡ false → f n ≡ false → some_below f (n + 1) ≡ false
unfolding some_below
none_more f n h g = rw (add-one n) (ap (λ (b : Bool). b || some_below f n) g ∙ h)
