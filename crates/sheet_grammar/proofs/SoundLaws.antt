-- What the reader accepts is of the grammar.
use Prim.Native.Nat.{ℕ, suc}
use mathlib.Core.Path.{◌≡◌}
use mathlib.Core.Bool.{true}
use mathlib.Core.List.{List}
use lib.ListN.{get_elem?}
use Rattle.sheet_grammar.specs.Tree.{Tree}
use Rattle.sheet_grammar.specs.Grammar.{
  Bracket,
  closer,
  bracketed,
  Sign,
  sign_byte,
  joined_by,
  Phrase,
  many,
  item,
  choice_phrase,
  each,
  Spells,
}
use Rattle.sheet_grammar.specs.Outcome.{Out, ok, bad}
use Rattle.sheet_grammar.specs.Reader.{byte_is, head_at, opens, Task, read, more}
use Rattle.sheet_grammar.specs.Rules.{Reads}
use Rattle.sheet_grammar.proofs.SliceLaws.{Slice, cons, slice-append, slice-byte}
use Rattle.sheet_grammar.proofs.ByteLaws.{is_true}
use Rattle.sheet_grammar.proofs.RuleLaws.{says_of}

-- from i up to e the text has a p that denotes t
pub record Spelt (s : List ℕ) (p : Phrase) (n i e : ℕ) (t : Tree) : Type 0 where
  pub word : List ℕ
  pub slice : Slice s i word e
  pub spells : Spells p n word t

-- what an answer means; where more is read, for every beginning of what the sign joins
abbrev pub Means : List ℕ → Task → ℕ → ℕ → Out → Type 0
Means s (read p) at n (ok t e) = Spelt s p n at e t
Means s (read p) at n (bad c i) = Unit {0}
Means s (more l t) at n (ok u e) = (i : ℕ) → Spelt s (many l) n i at t → Spelt s (many l) n i e u
Means s (more l t) at n (bad c i) = Unit {0}

joins : {s : List ℕ} {l : Sign} {n i at e : ℕ} {t u : Tree} → byte_is (get_elem? s at) (sign_byte l) ≡ true → Spelt s (many l) n i at t
    → Spelt s (each l) n (suc at) e u → Spelt s (many l) n i e (joined_by l t u)
joins x p q =
    record { word = _; slice = slice-append p.slice (cons (is_true _ _ x) q.slice); spells = Spells.join p.spells q.spells }

alone : {s : List ℕ} {l : Sign} {n at e : ℕ} {t : Tree} → Spelt s (each l) n at e t → Spelt s (many l) n at e t
alone p = record { word = p.word; slice = p.slice; spells = Spells.alone p.spells }

begins : {s : List ℕ} {l : Sign} {n at e : ℕ} {t : Tree} (out : Out) → Spelt s (many l) n at e t → Means s (more l t) e n out
    → Means s (read (many l)) at n out
begins (ok u f) p m = m _ p
begins (bad c i) p m = tt

goes_on : {s : List ℕ} (l : Sign) {n at e : ℕ} (t : Tree) {u : Tree} (out : Out) → byte_is (get_elem? s at) (sign_byte l) ≡ true
    → Spelt s (each l) n (suc at) e u → Means s (more l (joined_by l t u)) e n out → Means s (more l t) at n out
goes_on l t (ok v f) x p m = λ i q. m i (joins x q p)
goes_on l t (bad c i) x p m = tt

bracket-sound : {s : List ℕ} {at n i e : ℕ} {b : Bracket} {t : Tree} → head_at s at ≡ opens b i → Spelt s choice_phrase n (suc i) e t
    → byte_is (get_elem? s e) (closer b) ≡ true → Spelt s item (suc n) at (suc e) (bracketed b t)
bracket-sound {s} {at} x p y =
    let (w, q, o) = says_of s at x in
    record { word = _; slice = slice-append q (slice-byte p.slice (is_true _ _ y)); spells = Spells.bracket o p.spells }

pub sound : {s : List ℕ} {k : Task} {at n : ℕ} {out : Out} → Reads s k at n out → Means s k at n out
sound (Reads.first_bad p) = tt
sound (Reads.first {out} p q) = begins out (alone (sound p)) (sound q)
sound (Reads.done x) = λ i q. q
sound (Reads.next_bad x p) = tt
sound (Reads.next {l} {t} {out} x p q) = goes_on l t out x (sound p) (sound q)
sound (Reads.wrong x) = tt
sound {s} {at} (Reads.atom x) = let (w, p, q) = says_of s at x in record { word = w; slice = p; spells = Spells.atom q }
sound (Reads.deep x) = tt
sound (Reads.inner_bad x p) = tt
sound (Reads.unclosed x p y) = tt
sound (Reads.bracket x p y) = bracket-sound x (sound p) y
