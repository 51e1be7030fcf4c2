-- An answer is told by the places up to its own; and more nesting changes none but 16.
use Prim.Native.Nat.{ℕ, zero, suc, ◌≤◌}
use mathlib.Core.Path.{◌≡◌, refl, ◌∙◌}
use mathlib.Core.Bool.{Bool, true, false}
use mathlib.Core.List.{List}
use native.Mathlib.Omega.{arith}
use lib.ListN.{get_elem?}
use Rattle.sheet_grammar.specs.Tree.{Tree}
use Rattle.sheet_grammar.specs.Grammar.{Phrase, Spells}
use Rattle.sheet_grammar.specs.Places.{Like}
use Rattle.sheet_grammar.specs.Outcome.{Out, ok, bad}
use Rattle.sheet_grammar.specs.Reader.{byte_is, head_at, Head, Task}
use Rattle.sheet_grammar.specs.Rules.{Reads}
use Rattle.sheet_grammar.proofs.HeadLocalLaws.{last, head-local}
use Rattle.sheet_grammar.proofs.RuleLaws.{From, reads-after}

pub weaken : {p : Phrase} {n : ℕ} {w : List ℕ} {t : Tree} → Spells p n w t → (m : ℕ) → n ≤ m → Spells p m w t
weaken (Spells.alone p) m l = Spells.alone (weaken p m l)
weaken (Spells.join p q) m l = Spells.join (weaken p m l) (weaken q m l)
weaken (Spells.atom p) m l = Spells.atom p
weaken (Spells.bracket o p) zero l = absurd (let z : ⊥ = omega arith in z)
weaken (Spells.bracket o p) (suc m) l = Spells.bracket o (weaken p m (omega arith))

-- ── More nesting ──

-- any answer but 16
abbrev pub Kept : Out → Type 0
Kept (ok t e) = Unit {0}
Kept (bad c i) = c ≡ 16 → ⊥

pub deeper : {s : List ℕ} {k : Task} {at n : ℕ} {out : Out} → Reads s k at n out → Kept out → (m : ℕ) → n ≤ m → Reads s k at m out
deeper (Reads.first_bad p) x m l = Reads.first_bad (deeper p x m l)
deeper (Reads.first p q) x m l = Reads.first (deeper p tt m l) (deeper q x m l)
deeper (Reads.done y) x m l = Reads.done y
deeper (Reads.next_bad y p) x m l = Reads.next_bad y (deeper p x m l)
deeper (Reads.next y p q) x m l = Reads.next y (deeper p tt m l) (deeper q x m l)
deeper (Reads.wrong y) x m l = Reads.wrong y
deeper (Reads.atom y) x m l = Reads.atom y
deeper (Reads.deep y) x m l = absurd (x refl)
deeper (Reads.inner_bad y p) x zero l = absurd (let z : ⊥ = omega arith in z)
deeper (Reads.inner_bad y p) x (suc m) l = Reads.inner_bad y (deeper p x m (omega arith))
deeper (Reads.unclosed y p z) x zero l = absurd (let z : ⊥ = omega arith in z)
deeper (Reads.unclosed y p z) x (suc m) l = Reads.unclosed y (deeper p tt m (omega arith)) z
deeper (Reads.bracket y p z) x zero l = absurd (let z : ⊥ = omega arith in z)
deeper (Reads.bracket y p z) x (suc m) l = Reads.bracket y (deeper p tt m (omega arith)) z

-- ── Another text ──

-- the place of an answer
abbrev pub place : Out → ℕ
place (ok t e) = e
place (bad c i) = i

pub like-le : (s s' : List ℕ) (m n : ℕ) → Like s s' m → n ≤ m → Like s s' n
like-le s s' m n f l k h = f k (omega arith)

from_place : (at : ℕ) (out : Out) → From at out → at ≤ place out
from_place at (ok t e) h = h
from_place at (bad c i) h = h

-- the same beginning of an item
head_of : (s s' : List ℕ) (m at : ℕ) (h : Head) → Like s s' (suc m) → head_at s at ≡ h → last h ≤ m → head_at s' at ≡ h
head_of s s' m at h f x l = head-local s s' m f at (rw x l) ∙ x

is-of : (s s' : List ℕ) (m i b : ℕ) (x : Bool) → Like s s' (suc m) → byte_is (get_elem? s i) b ≡ x → i ≤ m → byte_is (get_elem? s' i) b ≡ x
is-of s s' m i b x f h l = rw (f i (omega arith)) at h

pub local : {s : List ℕ} {k : Task} {at n : ℕ} {out : Out} → Reads s k at n out → (s' : List ℕ) (m : ℕ) → Like s s' (suc m) → place out ≤ m
    → Reads s' k at n out
local (Reads.first_bad p) s' m f l = Reads.first_bad (local p s' m f l)
local (Reads.first {e} {out} p q) s' m f l =
    Reads.first (local p s' m f (omega (arith, from_place e out (reads-after q)))) (local q s' m f l)
local {s} (Reads.done {at = at} x) s' m f l = Reads.done (is-of s s' m at _ false f x l)
local {s} (Reads.next_bad {at = at} x p) s' m f l =
    Reads.next_bad (is-of s s' m at _ true f x (omega (arith, reads-after p))) (local p s' m f l)
local {s} (Reads.next {at = at} {e} {out} x p q) s' m f l =
    let h = from_place e out (reads-after q) in
    Reads.next (is-of s s' m at _ true f x (omega (arith, reads-after p))) (local p s' m f (omega arith)) (local q s' m f l)
local {s} {at} (Reads.wrong x) s' m f l = Reads.wrong (head_of s s' m at _ f x l)
local {s} {at} (Reads.atom x) s' m f l = Reads.atom (head_of s s' m at _ f x l)
local {s} {at} (Reads.deep x) s' m f l = Reads.deep (head_of s s' m at _ f x l)
local {s} {at} (Reads.inner_bad x p) s' m f l = Reads.inner_bad (head_of s s' m at _ f x (omega (arith, reads-after p))) (local p s' m f l)
local {s} {at} (Reads.unclosed {e} x p y) s' m f l =
    Reads.unclosed (head_of s s' m at _ f x (omega (arith, reads-after p))) (local p s' m f l) (is-of s s' m e _ false f y l)
local {s} {at} (Reads.bracket {e} x p y) s' m f l =
    Reads.bracket (head_of s s' m at _ f x (omega (arith, reads-after p))) (local p s' m f (omega arith))
    (is-of s s' m e _ true f y (omega arith))
