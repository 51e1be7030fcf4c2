-- The rows of an event, stored from two tables of it at a time.
use Prim.Native.Nat.{ℕ}
use mathlib.Core.Path.{◌≡◌, sym, ap, ap₂, ◌∙◌}
use mathlib.Core.Bool.{Bool, true, false}
use mathlib.Core.List.{List}
use Rattle.usage.specs.declared.Edge.{Edge}
use Rattle.automaton.specs.Move.{rows_of, rows_at}
use Rattle.automaton.proofs.PlaceLaws.{rows-one}
use Rattle.checker_account.specs.Tables.{way_of}
use Rattle.checker_account.specs.RowTable.{rows_stored, side_rows, event_rows_lem}

module _ (es : List Edge) (a s : ℕ) where
  module _ (p k : ℕ) (own other r r₁ : List ℕ) where
    side-is : (second : Bool) → own ≡ rows_at es a s true second → other ≡ rows_at es a s false second
        → r₁ ≡ rows_stored k (way_of false second) p own other r → r₁ ≡ side_rows (rows_at es) second p k a s r
    side-is second e f h = h ∙ ap₂ (λ (own other : List ℕ). rows_stored k (way_of false second) p own other r) e f

    pub first-side : own ≡ rows_of es a s true → other ≡ rows_of es a s false → r₁ ≡ rows_stored k 0 p own other r
        → r₁ ≡ side_rows (rows_at es) false p k a s r
    first-side e f h = side-is false (e ∙ sym (rows-one es a s true)) (f ∙ sym (rows-one es a s false)) h

    pub second-side : own ≡ rows_at es a s true true → other ≡ rows_at es a s false true → r₁ ≡ rows_stored k 2 p own other r
        → r₁ ≡ side_rows (rows_at es) true p k a s r
    second-side e f h = side-is true e f h

  -- one side, and both
  pub one_side : (pair : Bool) (p k : ℕ) (r r₁ : List ℕ) → pair ≡ false → r₁ ≡ side_rows (rows_at es) false p k a s r
      → r₁ ≡ event_rows_lem (rows_at es) pair p k a s r
  one_side pair p k r r₁ e h =
      h ∙ sym (ap (λ (b : Bool). event_rows_lem (rows_at es) b p k a s r) e)

  pub both-sides : (pair : Bool) (p k : ℕ) (r r₁ r₂ : List ℕ) → pair ≡ true → r₁ ≡ side_rows (rows_at es) false p k a s r
      → r₂ ≡ side_rows (rows_at es) true p k a s r₁ → r₂ ≡ event_rows_lem (rows_at es) pair p k a s r
  both-sides pair p k r r₁ r₂ e f h =
      h ∙ ap (side_rows (rows_at es) true p k a s) f ∙ sym (ap (λ (b : Bool). event_rows_lem (rows_at es) b p k a s r) e)
