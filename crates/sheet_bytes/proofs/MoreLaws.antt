-- One more byte at the end of a line's bytes, in the definitions.
use Prim.Native.Nat.{ℕ, ◌+◌, ◌-◌, ◌*◌, ◌≤◌}
use mathlib.Core.Path.{◌≡◌, refl}
use mathlib.Core.Bool.{Bool, true, false, cond, not, ◌&&◌, ◌||◌}
use mathlib.Core.Option.{Option, none, some}
use mathlib.Core.List.{List, [], ◌∷◌, ◌++◌}
use native.Mathlib.Omega.{arith}
use lib.Dec.{eqb, ltb}
use lib.ListN.{length, length-append}
use borrow.Author.Tests.{ne_eqb}
use Rattle.usage.specs.Limits.{most_digits}
use Rattle.sheet_bytes.specs.Class.{class_of}
use Rattle.sheet_bytes.specs.Line.{Progress, nothing, further, byte, read, complete, counted}
use Rattle.sheet_bytes.specs.Fault.{has_other, has_overlong}
use Rattle.sheet_bytes.proofs.GrammarLaws.{read-append}

-- the digits at the end of bytes that follow d digits
unfoldable pub last-run : ℕ → List ℕ → ℕ
last-run d [] = d
last-run d (b ∷ bs) = last-run (cond (eqb (class_of b) 0) (d + 1) 0) bs

pub run-snoc : (d : ℕ) (bs : List ℕ) (b : ℕ) → last-run d (bs ++ (b ∷ [])) ≡ cond (eqb (class_of b) 0) (last-run d bs + 1) 0
unfolding last-run
run-snoc d [] b = refl
run-snoc d (c ∷ cs) b = run-snoc (cond (eqb (class_of c) 0) (d + 1) 0) cs b

pub other-snoc : (bs : List ℕ) (b : ℕ) → has_other (bs ++ (b ∷ [])) ≡ (has_other bs || eqb (class_of b) 3)
unfolding has_other
other-snoc [] b = go (eqb (class_of b) 3)
  where
    go : (x : Bool) → cond x true false ≡ x
    go true = refl
    go false = refl
other-snoc (c ∷ cs) b = go (eqb (class_of c) 3) (other-snoc cs b)
  where
    go : (x : Bool) → has_other (cs ++ (b ∷ [])) ≡ (has_other cs || eqb (class_of b) 3)
        → cond x true (has_other (cs ++ (b ∷ []))) ≡ (cond x true (has_other cs) || eqb (class_of b) 3)
    go true ih = refl
    go false ih = ih

pub overlong-snoc : (d : ℕ) (bs : List ℕ) (b : ℕ)
    → has_overlong d (bs ++ (b ∷ [])) ≡ (has_overlong d bs || (eqb (class_of b) 0 && not (ltb (last-run d bs) most_digits)))
unfolding has_overlong last-run
overlong-snoc d [] b = go (eqb (class_of b) 0) (ltb d most_digits)
  where
    go : (x y : Bool) → cond x (cond y false true) false ≡ (x && not y)
    go true true = refl
    go true false = refl
    go false y = refl
overlong-snoc d (c ∷ cs) b = go (eqb (class_of c) 0) (ltb d most_digits) (overlong-snoc (d + 1) cs b) (overlong-snoc 0 cs b)
  where
    go : (x y : Bool)
        → has_overlong (d + 1) (cs ++ (b ∷ [])) ≡ (has_overlong (d + 1) cs ||
        (eqb (class_of b) 0 && not (ltb (last-run (d + 1) cs) most_digits)))
        → has_overlong 0 (cs ++ (b ∷ [])) ≡ (has_overlong 0 cs || (eqb (class_of b) 0 && not (ltb (last-run 0 cs) most_digits)))
        → cond x (cond y (has_overlong (d + 1) (cs ++ (b ∷ []))) true) (has_overlong 0 (cs ++ (b ∷ [])))
        ≡ (cond x (cond y (has_overlong (d + 1) cs) true) (has_overlong 0 cs)
        || (eqb (class_of b) 0 && not (ltb (last-run (cond x (d + 1) 0) cs) most_digits)))
    go true true inside after = inside
    go true false inside after = refl
    go false y inside after = after

pub read-snoc : (bs : List ℕ) (b : ℕ) → read (some nothing) (bs ++ (b ∷ [])) ≡ byte (read (some nothing) bs) b
unfolding read
read-snoc bs b = read-append (some nothing) bs (b ∷ [])

-- A line that has n values before the one that is being read, or of which no values are read: a line of n fields it is not.
abbrev pub Full : ℕ → Option Progress → Type 0
Full n none = Unit {0}
Full n (some p) = n ≤ length p.values

more-full : (n : ℕ) (vs : List ℕ) (v : ℕ) → n ≤ length vs → n ≤ length (vs ++ (v ∷ []))
more-full n vs v h = omega (arith, length-append vs (v ∷ []))

pub byte_full : (n : ℕ) (o : Option Progress) (b : ℕ) → Full n o → Full n (byte o b)
byte_full n none b h = tt
byte_full n (some p) b h = go (eqb (class_of b) 0) (eqb (class_of b) 1) (ltb p.digits most_digits) (eqb p.digits 0)
  where
    spaces : (vs : List ℕ) → Full n (further p vs)
    spaces [] = tt
    spaces (v ∷ vs) = h

    go : (x y d z : Bool) → Full n (cond x
        (cond d (some record { values = p.values; digits = p.digits + 1; value = p.value * 10 + (b - 48) }) none)
        (cond y (cond z (further p p.values) (some record { values = p.values ++ (p.value ∷ []); digits = 0; value = 0 })) none))
    go true y true z = h
    go true y false z = tt
    go false true d true = spaces p.values
    go false true d false = more-full n p.values p.value h
    go false false d z = tt

pub ends-full : (n : ℕ) (o : Option Progress) → Full n o → counted n (complete o) ≡ none
ends-full n none h = refl
ends-full n (some p) h = go (eqb p.digits 0)
  where
    longer : length (p.values ++ (p.value ∷ [])) ≡ n → ⊥
    longer e = omega (arith, length-append p.values (p.value ∷ []))

    go : (z : Bool) → counted n (cond z none (some (p.values ++ (p.value ∷ [])))) ≡ none
    go true = refl
    go false = rw (ne_eqb (length (p.values ++ (p.value ∷ []))) n longer)
