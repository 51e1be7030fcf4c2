-- What is read has no more nodes than bytes, and ends in the text.
use Prim.Native.Nat.{ℕ, suc, ◌+◌, ◌<◌, ◌≤◌}
use mathlib.Core.Path.{◌≡◌, refl}
use mathlib.Core.List.{List}
use native.Mathlib.Omega.{arith}
use lib.ListN.{length}
use Rattle.sheet_grammar.specs.Tree.{Tree}
use Rattle.sheet_grammar.specs.Grammar.{
  Label,
  label,
  one,
  two,
  Atom,
  Bracket,
  Opener,
  closer,
  bracketed,
  Sign,
  plus,
  dot,
  joined_by,
  Phrase,
  many,
}
use Rattle.sheet_grammar.specs.Outcome.{Out, ok, bad}
use Rattle.sheet_grammar.specs.Reader.{head_at, opens, Task, read, more}
use Rattle.sheet_grammar.specs.Rules.{Reads}
use Rattle.sheet_grammar.specs.Nodes.{tree_size}
use Rattle.sheet_grammar.proofs.SliceLaws.{Slice}
use Rattle.sheet_grammar.proofs.ByteLaws.{is_true}
use Rattle.sheet_grammar.proofs.RuleLaws.{in_text, slice-text, says_of, atom-past, opens-past}

pub joined-size : (l : Sign) (t u : Tree) → tree_size (joined_by l t u) ≡ suc (tree_size t + tree_size u)
unfolding tree_size
joined-size plus t u = refl
joined-size dot t u = refl

pub around-size : (b : Bracket) (t : Tree) → tree_size (bracketed b t) ≤ suc (tree_size t)
unfolding tree_size
around-size Bracket.round t = omega arith
around-size (Bracket.loop l) t = omega arith
around-size (Bracket.fresh n) t = omega arith
around-size (Bracket.sandbox p) t = omega arith

atom-size : {w : List ℕ} {t : Tree} → Atom w t → tree_size t ≡ 1
unfolding tree_size
atom-size Atom.end = refl
atom-size (Atom.static_event p q) = refl
atom-size (Atom.named_event p q) = refl
atom-size (Atom.back p) = refl

atom-text : {s w : List ℕ} {i e : ℕ} {t : Tree} → Atom w t → Slice s i w e → e ≤ length s
atom-text Atom.end p = slice-text p
atom-text (Atom.static_event (one l) q) p = slice-text p
atom-text (Atom.static_event (two l m) q) p = slice-text p
atom-text (Atom.named_event (one l) q) p = slice-text p
atom-text (Atom.named_event (two l m) q) p = slice-text p
atom-text (Atom.back q) p = slice-text p

abbrev pub Sized : List ℕ → Task → ℕ → Out → Type 0
Sized s (read p) at (ok t e) = (at + tree_size t ≤ e) × (e ≤ length s)
Sized s (read p) at (bad c i) = Unit {0}
Sized s (more l t) at (ok u e) = (at + tree_size u ≤ e + tree_size t) × (at ≤ length s → e ≤ length s)
Sized s (more l t) at (bad c i) = Unit {0}

begins : (s : List ℕ) (l : Sign) (p : Phrase) (t : Tree) (at e : ℕ) (out : Out) → (at + tree_size t ≤ e) × (e ≤ length s)
    → Sized s (more l t) e out → Sized s (read p) at out
begins s l p t at e (ok u f) x y = (let a = x.0 in let b = y.0 in omega arith, y.1 x.1)
begins s l p t at e (bad c i) x y = tt

goes_on : (s : List ℕ) (l : Sign) (t u : Tree) (at e : ℕ) (out : Out) → (suc at + tree_size u ≤ e) × (e ≤ length s)
    → Sized s (more l (joined_by l t u)) e out → Sized s (more l t) at out
goes_on s l t u at e (ok v f) x y = (let a = x.0 in let b = y.0 in omega (arith, joined-size l t u), λ h. y.1 x.1)
goes_on s l t u at e (bad c i) x y = tt

pub sized : {s : List ℕ} {k : Task} {at n : ℕ} {out : Out} → Reads s k at n out → Sized s k at out
sized (Reads.first_bad p) = tt
sized {s} (Reads.first {l} {at} {e} {t} {out} p q) = begins s l (many l) t at e out (sized p) (sized q)
sized (Reads.done x) = (omega arith, λ h. h)
sized (Reads.next_bad x p) = tt
sized {s} (Reads.next {l} {at} {e} {t} {u} {out} x p q) = goes_on s l t u at e out (sized p) (sized q)
sized (Reads.wrong x) = tt
sized {s} {at} (Reads.atom x) = let (w, p, q) = says_of s at x in let h = atom-past s at x in (omega (arith, atom-size q), atom-text q p)
sized (Reads.deep x) = tt
sized (Reads.inner_bad x p) = tt
sized (Reads.unclosed x p y) = tt
sized {s} {at} (Reads.bracket {e} {b} {t} x p y) =
    let h = sized p in
    let a = h.0 in
    (omega (arith, around-size b t, opens-past s at x), in_text s e (closer b) (is_true _ _ y))

-- labels are one digit
pub label_small : {w : List ℕ} {l : ℕ} → Label w l → l < 10
label_small (label h) = h

loop-label : {w : List ℕ} {b : Bracket} {l : ℕ} → Opener w b → b ≡ Bracket.loop l → l < 10
loop-label Opener.round e = let z : ◌≡◌ {A = ℕ} 0 1 = cc in omega arith
loop-label {l} (Opener.loop {l = m} p) e = let h = label_small p in let z : m ≡ l = cc in omega arith
loop-label (Opener.fresh p) e = let z : ◌≡◌ {A = ℕ} 0 1 = cc in omega arith
loop-label (Opener.sandbox p) e = let z : ◌≡◌ {A = ℕ} 0 1 = cc in omega arith

pub opens-label : (s : List ℕ) (at l i : ℕ) → head_at s at ≡ opens (Bracket.loop l) i → l < 10
opens-label s at l i x = let (w, p, o) = says_of s at x in loop-label o refl
