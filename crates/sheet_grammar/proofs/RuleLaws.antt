-- The rules of the reader allow one answer, and it is the one that `read_by` computes.
use Prim.Native.Nat.{ℕ, zero, suc, ◌+◌, ◌*◌, ◌-◌, ◌<◌, ◌≤◌}
use mathlib.Core.Path.{◌≡◌, refl, sym, subst, ◌∙◌}
use mathlib.Core.Bool.{Bool, true, false, cond}
use mathlib.Core.Option.{none, some}
use mathlib.Core.List.{List, [], ◌∷◌}
use mathlib.Core.Logic.{◌⊎◌, inl, inr}
use native.Mathlib.Omega.{arith}
use lib.ListN.{get_elem?, length}
use Rattle.usage.proofs.Logic.{none-some}
use Rattle.sheet_grammar.specs.Tree.{Tree}
use Rattle.sheet_grammar.specs.Grammar.{
  one,
  two,
  Atom,
  Bracket,
  Opener,
  closer,
  bracketed,
  Sign,
  plus,
  dot,
  sign_byte,
  joined_by,
  Phrase,
  many,
  item,
  choice_phrase,
  each,
}
use Rattle.sheet_grammar.specs.Outcome.{Out, ok, bad}
use Rattle.sheet_grammar.specs.Reader.{byte_is, head_at, Head, opens, and_then, Task, read, more, close_at, item_by, more_by, read_by, calls}
use Rattle.sheet_grammar.specs.Rules.{Reads}
use Rattle.sheet_grammar.proofs.SliceLaws.{Slice, nil, cons, slice-le}
use Rattle.sheet_grammar.proofs.ByteLaws.{is_true}
use Rattle.sheet_grammar.proofs.HeadLaws.{Says, head-says}

-- ── Places ──

pub in_text : (s : List ℕ) (i b : ℕ) → get_elem? s i ≡ some b → i < length s
in_text [] i b h = none-some h
in_text (c ∷ s) zero b h = omega arith
in_text (c ∷ s) (suc i) b h = let q = in_text s i b h in omega arith

pub past_end : (s : List ℕ) (i : ℕ) → get_elem? s i ≡ none → length s ≤ i
past_end [] i h = omega arith
past_end (c ∷ s) zero h = none-some (sym h)
past_end (c ∷ s) (suc i) h = let q = past_end s i h in omega arith

pub slice-long : {s w : List ℕ} {i e b : ℕ} → Slice s i (b ∷ w) e → i < e
slice-long (cons h p) = slice-le p

pub atom-long : {s w : List ℕ} {i e : ℕ} {t : Tree} → Atom w t → Slice s i w e → i < e
atom-long Atom.end p = slice-long p
atom-long (Atom.static_event (one l) q) p = slice-long p
atom-long (Atom.static_event (two l m) q) p = slice-long p
atom-long (Atom.named_event (one l) q) p = slice-long p
atom-long (Atom.named_event (two l m) q) p = slice-long p
atom-long (Atom.back q) p = slice-long p

-- what the beginning of an item says, of a known one
pub says_of : (s : List ℕ) (at : ℕ) {h : Head} → head_at s at ≡ h → Says s at h
says_of s at e = subst (λ (h : Head). Says s at h) e (head-says s at)

pub atom-past : (s : List ℕ) (at : ℕ) {t : Tree} {e : ℕ} → head_at s at ≡ Head.atom t e → at < e
atom-past s at x = let (w, p, q) = says_of s at x in atom-long q p

pub slice-text : {s w : List ℕ} {i e b : ℕ} → Slice s i (b ∷ w) e → e ≤ length s
slice-text {s} (cons {i} {b} h nil) = in_text s i b h
slice-text (cons h (cons g p)) = slice-text (cons g p)

pub opener-past : {s w : List ℕ} {at e : ℕ} {b : Bracket} → Opener w b → Slice s at w e → (at < e) × (e ≤ length s)
opener-past Opener.round p = (slice-long p, slice-text p)
opener-past (Opener.loop q) p = (slice-long p, slice-text p)
opener-past (Opener.fresh q) p = (slice-long p, slice-text p)
opener-past (Opener.sandbox q) p = (slice-long p, slice-text p)

pub opens-past : (s : List ℕ) (at : ℕ) {b : Bracket} {i : ℕ} → head_at s at ≡ opens b i → (at ≤ i) × (i < length s)
opens-past s at x = let (w, p, q) = says_of s at x in let h = opener-past q p in (omega arith, omega arith)

pub wrong-past : (s : List ℕ) (at : ℕ) {i : ℕ} → head_at s at ≡ Head.wrong i → at ≤ i
wrong-past s at x = slice-le (says_of s at x).slice

-- an answer's place is not before the place asked at, and past it where a part was read
abbrev pub From : ℕ → Out → Type 0
From at (ok t e) = at ≤ e
From at (bad c i) = at ≤ i

abbrev pub Beyond : ℕ → Out → Type 0
Beyond at (ok t e) = at < e
Beyond at (bad c i) = at ≤ i

abbrev pub After : Task → ℕ → Out → Type 0
After (read p) at out = Beyond at out
After (more l t) at out = From at out

pub after_more : (at e : ℕ) (out : Out) → at < e → From e out → Beyond at out
after_more at e (ok u f) l x = omega arith
after_more at e (bad c i) l x = omega arith

pub after_next : (at e : ℕ) (out : Out) → at < e → From e out → From at out
after_next at e (ok u f) l x = omega arith
after_next at e (bad c i) l x = omega arith

pub reads-after : {s : List ℕ} {k : Task} {at n : ℕ} {out : Out} → Reads s k at n out → After k at out
reads-after (Reads.first_bad p) = reads-after p
reads-after (Reads.first {at} {e} {out} p q) = after_more at e out (reads-after p) (reads-after q)
reads-after (Reads.done x) = omega arith
reads-after (Reads.next_bad x p) = let h = reads-after p in omega arith
reads-after (Reads.next {at} {e} {out} x p q) = let h = reads-after p in after_next at e out (omega arith) (reads-after q)
reads-after {s} {at} (Reads.wrong x) = wrong-past s at x
reads-after {s} {at} (Reads.atom x) = atom-past s at x
reads-after {s} {at} (Reads.deep x) = (opens-past s at x).0
reads-after {s} {at} (Reads.inner_bad x p) = let h = reads-after p in omega (arith, (opens-past s at x).0)
reads-after {s} {at} (Reads.unclosed x p y) = let h = reads-after p in omega (arith, (opens-past s at x).0)
reads-after {s} {at} (Reads.bracket x p y) = let h = reads-after p in omega (arith, (opens-past s at x).0)

-- a refusal is 15 or 16
abbrev pub Code : Out → Type 0
Code (ok t e) = Unit {0}
Code (bad c i) = (c ≡ 15) ⊎ (c ≡ 16)

pub codes : {s : List ℕ} {k : Task} {at n : ℕ} {out : Out} → Reads s k at n out → Code out
codes (Reads.first_bad p) = codes p
codes (Reads.first p q) = codes q
codes (Reads.done x) = tt
codes (Reads.next_bad x p) = codes p
codes (Reads.next x p q) = codes q
codes (Reads.wrong x) = inl refl
codes (Reads.atom x) = tt
codes (Reads.deep x) = inr refl
codes (Reads.inner_bad x p) = codes p
codes (Reads.unclosed x p y) = inl refl
codes (Reads.bracket x p y) = tt

-- ── The computed answer ──

abbrev rank : Phrase → ℕ
rank item = 0
rank (many dot) = 1
rank (many plus) = 2

abbrev rank-of : Task → ℕ
rank-of (read p) = rank p
rank-of (more l t) = 0

-- so many calls are enough, one apart
abbrev weight : List ℕ → Task → ℕ → ℕ
weight s k at = 4 * (length s - at) + rank-of k

rank-many : (l : Sign) → rank (many l) ≡ suc (rank (each l))
rank-many plus = refl
rank-many dot = refl

rank-each : (l : Sign) → rank (each l) ≤ 1
rank-each plus = omega arith
rank-each dot = omega arith

-- what the rules allow is computed
pub computes : {s : List ℕ} {k : Task} {at n : ℕ} {out : Out} → Reads s k at n out → (m : ℕ) → weight s k at ≤ m
    → read_by (suc m) s k at n ≡ out
unfolding read_by
computes {s} {at} (Reads.first_bad {l} p) zero h = absurd (let z : ⊥ = omega (arith, rank-many l) in z)
computes {s} {at} (Reads.first_bad {l} p) (suc m) h = rw (computes p m (omega (arith, rank-many l)))
computes {s} {at} (Reads.first {l} p q) zero h = absurd (let z : ⊥ = omega (arith, rank-many l) in z)
computes {s} {at} (Reads.first {l} p q) (suc m) h =
    let g = reads-after p in rw (computes p m (omega (arith, rank-many l)), computes q m (omega (arith, rank-many l)))
computes {s} {at} (Reads.done x) m h = rw x
computes {s} {at} (Reads.next_bad {l} x p) zero h = absurd (let z : ⊥ = omega (arith, in_text s at (sign_byte l) (is_true _ _ x)) in z)
computes {s} {at} (Reads.next_bad {l} x p) (suc m) h =
    rw (x, computes p m (omega (arith, rank-each l, in_text s at (sign_byte l) (is_true _ _ x))))
computes {s} {at} (Reads.next {l} x p q) zero h = absurd (let z : ⊥ = omega (arith, in_text s at (sign_byte l) (is_true _ _ x)) in z)
computes {s} {at} (Reads.next {l} x p q) (suc m) h =
    let g = reads-after p in let i = in_text s at (sign_byte l) (is_true _ _ x) in
    rw (x, computes p m (omega (arith, rank-each l)), computes q m (omega arith))
computes {s} {at} (Reads.wrong x) m h = rw x
computes {s} {at} (Reads.atom x) m h = rw x
computes {s} {at} (Reads.deep x) m h = rw x
computes {s} {at} (Reads.inner_bad x p) zero h = absurd (let z : ⊥ = omega (arith, opens-past s at x) in z)
computes {s} {at} (Reads.inner_bad x p) (suc m) h = rw (x, computes p m (omega (arith, opens-past s at x)))
computes {s} {at} (Reads.unclosed x p y) zero h = absurd (let z : ⊥ = omega (arith, opens-past s at x) in z)
computes {s} {at} (Reads.unclosed x p y) (suc m) h = rw (x, computes p m (omega (arith, opens-past s at x)), y)
computes {s} {at} (Reads.bracket x p y) zero h = absurd (let z : ⊥ = omega (arith, opens-past s at x) in z)
computes {s} {at} (Reads.bracket x p y) (suc m) h = rw (x, computes p m (omega (arith, opens-past s at x)), y)

-- ── What is computed is allowed ──

module _ (s : List ℕ) where
  closes_by : (at n i : ℕ) (b : Bracket) → head_at s at ≡ opens b i → (t : Tree) (e : ℕ) → Reads s (read choice_phrase) (suc i) n (ok t e)
      → (x : Bool) → byte_is (get_elem? s e) (closer b) ≡ x → Reads s (read item) at (suc n) (cond x (ok (bracketed b t) (suc e)) (bad 15 e))
  closes_by at n i b h t e p true x = Reads.bracket h p x
  closes_by at n i b h t e p false x = Reads.unclosed h p x

  bracket-by : (at n i : ℕ) (b : Bracket) → head_at s at ≡ opens b i → (o : Out) → Reads s (read choice_phrase) (suc i) n o
      → Reads s (read item) at (suc n) (and_then o (λ t e. close_at s b t e))
  bracket-by at n i b h (ok t e) p = closes_by at n i b h t e p (byte_is (get_elem? s e) (closer b)) refl
  bracket-by at n i b h (bad c j) p = Reads.inner_bad h p

  item-says : (at : ℕ) (inner : ℕ → ℕ → Out) → ((i n : ℕ) → at ≤ i → i < length s → Reads s (read choice_phrase) (suc i) n (inner (suc i) n))
      → (h : Head) → head_at s at ≡ h → (n : ℕ) → Reads s (read item) at n (item_by s h n inner)
  item-says at inner f (Head.atom t e) h n = Reads.atom h
  item-says at inner f (Head.wrong i) h n = Reads.wrong h
  item-says at inner f (opens b i) h zero = Reads.deep h
  item-says at inner f (opens b i) h (suc n) = let g = opens-past s at h in bracket-by at n i b h (inner (suc i) n) (f i n g.0 g.1)

  many-says : (l : Sign) (at n : ℕ) (next : Tree → ℕ → Out) → ((t : Tree) (e : ℕ) → at < e → Reads s (more l t) e n (next t e))
      → (o : Out) → Reads s (read (each l)) at n o → Reads s (read (many l)) at n (and_then o next)
  many-says l at n next f (ok t e) p = Reads.first p (f t e (reads-after p))
  many-says l at n next f (bad c i) p = Reads.first_bad p

  next-says : (l : Sign) (t : Tree) (at n : ℕ) (next : Tree → ℕ → Out) → byte_is (get_elem? s at) (sign_byte l) ≡ true
      → ((u : Tree) (e : ℕ) → at < e → Reads s (more l (joined_by l t u)) e n (next u e))
      → (o : Out) → Reads s (read (each l)) (suc at) n o → Reads s (more l t) at n (and_then o next)
  next-says l t at n next x f (ok u e) p = let h = reads-after p in Reads.next x p (f u e (omega arith))
  next-says l t at n next x f (bad c i) p = Reads.next_bad x p

  more-says : (l : Sign) (t : Tree) (at n : ℕ) (next : ℕ → Out)
      → (byte_is (get_elem? s at) (sign_byte l) ≡ true → Reads s (more l t) at n (next (suc at)))
      → (x : Bool) → byte_is (get_elem? s at) (sign_byte l) ≡ x → Reads s (more l t) at n (more_by x t at next)
  more-says l t at n next f true x = f x
  more-says l t at n next f false x = Reads.done x

  pub allowed : (m : ℕ) (k : Task) (at n : ℕ) → weight s k at ≤ m → Reads s k at n (read_by (suc m) s k at n)
  unfolding read_by
  allowed zero (read (many l)) at n h = absurd (let z : ⊥ = omega (arith, rank-many l) in z)
  allowed (suc m) (read (many l)) at n h =
      many-says l at n (λ t e. read_by (suc m) s (more l t) e n) (λ t e g. allowed m (more l t) e n (omega (arith, rank-many l)))
      (read_by (suc m) s (read (each l)) at n) (allowed m (read (each l)) at n (omega (arith, rank-many l)))
  allowed zero (read item) at n h =
      item-says at (λ i d. read_by zero s (read choice_phrase) i d) (λ i d g l. absurd (let z : ⊥ = omega arith in z)) (head_at s at) refl n
  allowed (suc m) (read item) at n h =
      item-says at (λ i d. read_by (suc m) s (read choice_phrase) i d) (λ i d g l. allowed m (read choice_phrase) (suc i) d (omega arith))
      (head_at s at) refl n
  allowed zero (more l t) at n h =
      more-says l t at n (λ i. and_then (read_by zero s (read (each l)) i n) (λ u e. read_by zero s (more l (joined_by l t u)) e n))
      (λ x. absurd (let z : ⊥ = omega (arith, in_text s at (sign_byte l) (is_true _ _ x)) in z)) (byte_is (get_elem? s at) (sign_byte l)) refl
  allowed (suc m) (more l t) at n h =
      more-says l t at n (λ i. and_then (read_by (suc m) s (read (each l)) i n) (λ u e. read_by (suc m) s (more l (joined_by l t u)) e n))
      (λ x.
      let i = in_text s at (sign_byte l) (is_true _ _ x) in
      next-says l t at n (λ u e. read_by (suc m) s (more l (joined_by l t u)) e n) x
      (λ u e g. allowed m (more l (joined_by l t u)) e n (omega arith))
      (read_by (suc m) s (read (each l)) (suc at) n) (allowed m (read (each l)) (suc at) n (omega (arith, rank-each l))))
      (byte_is (get_elem? s at) (sign_byte l)) refl

  -- of the whole text
  pub whole-allowed : (n : ℕ) → Reads s (read choice_phrase) 0 n (read_by (calls s) s (read choice_phrase) 0 n)
  whole-allowed n =
      rw (let z : calls s ≡ suc (4 * length s + 3) = omega arith in z) (allowed (4 * length s + 3) (read choice_phrase) 0 n (omega arith))

  pub whole-computes : (n : ℕ) (out : Out) → Reads s (read choice_phrase) 0 n out → read_by (calls s) s (read choice_phrase) 0 n ≡ out
  whole-computes n out p = rw (let z : calls s ≡ suc (4 * length s + 3) = omega arith in z) (computes p (4 * length s + 3) (omega arith))

-- the rules allow one answer
pub one_answer : {s : List ℕ} {k : Task} {at n : ℕ} {o o' : Out} → Reads s k at n o → Reads s k at n o' → o ≡ o'
one_answer {s} {k} {at} p q = sym (computes p (weight s k at) (omega arith)) ∙ computes q (weight s k at) (omega arith)
