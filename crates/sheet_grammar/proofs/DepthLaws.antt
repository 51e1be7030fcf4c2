-- How deep brackets nest in what is read: none too deep before the place of an answer, and 16 stands at the first that is.
use Prim.Native.Nat.{ℕ, suc, ◌+◌, ◌<◌, ◌≤◌}
use mathlib.Core.Path.{◌≡◌, refl, sym, subst, ◌∙◌}
use mathlib.Core.Bool.{true, false}
use mathlib.Core.Option.{some, some-injective}
use mathlib.Core.List.{List, [], ◌∷◌, ◌++◌}
use mathlib.Core.Logic.{inl, inr}
use native.Mathlib.Omega.{arith}
use native.Mathlib.Decide.{dec_lt}
use lib.ListN.{get_elem?}
use Rattle.sheet_grammar.specs.Grammar.{Bracket, Opener, closer, Sign, plus, dot, sign_byte}
use Rattle.sheet_grammar.specs.Places.{among, opens_bracket, closes_bracket, AfterDigit, Nests}
use Rattle.sheet_grammar.specs.Outcome.{Out, ok, bad}
use Rattle.sheet_grammar.specs.Reader.{Task, read, more}
use Rattle.sheet_grammar.specs.Rules.{Reads}
use Rattle.sheet_grammar.proofs.SliceLaws.{Slice, nil, cons, slice-split, last_byte}
use Rattle.sheet_grammar.proofs.ByteLaws.{is_true}
use Rattle.sheet_grammar.proofs.EvenLaws.{
  Plain,
  Silent,
  silent-nil,
  silent-place,
  no-nests,
  only,
  Even,
  even-append,
  even-plain,
  opening-step,
  closing-step,
  even-label,
  even-number,
  even-atom,
}
use Rattle.sheet_grammar.proofs.RuleLaws.{says_of}

module _ (s : List ℕ) where
  -- d brackets are open at i
  abbrev pub Level : ℕ → ℕ → Type 0
  Level i d = among opens_bracket s i ≡ d + among closes_bracket s i

  -- no bracket from i up to e is deeper than D
  abbrev pub Flat : ℕ → ℕ → ℕ → Type 0
  Flat D i e = (j m : ℕ) → i ≤ j → j < e → Nests s j m → m ≤ D

  pub flat_append : {D i m e : ℕ} → Flat D i m → Flat D m e → Flat D i e
  flat_append {D} {i} {m} {e} p q j k a b n = go (dec_lt j m)
    where
      go : Dec (j < m) → k ≤ D
      go (yes l) = p j k a l n
      go (no l) = q j k (omega arith) b n

  pub flat-silent : {D i e : ℕ} → Silent s i e → Flat D i e
  flat-silent f j m a b n = absurd (f j m a b n)

  flat-place : {D i d : ℕ} → Nests s i d → d ≤ D → Flat D i (suc i)
  flat-place {D} {i} {d} n l j m a b x =
      let y : Nests s i m = subst (λ (k : ℕ). Nests s k m) (sym (only s a b)) x in
      let u = n.depth in
      let v = y.depth in
      omega arith

  -- a bracket that opens at i, where d were open at the beginning of the item
  pub record Opened (at i d : ℕ) : Type 0 where
    pub before : Silent s at i
    pub nests : Nests s i (suc d)
    pub level : Level (suc i) (suc d)

  opened-curly : {at i d c : ℕ} → get_elem? s at ≡ some c → Plain c → (c ≡ 40 → ⊥) → (c ≡ 123 → ⊥) → Even s (suc at) i
      → get_elem? s i ≡ some 123 → Level at d → Opened at i d
  opened-curly {at} {i} {d} {c} h p x y q g l =
      let e = even-append s (even-plain s h p x y) q in
      let b = e.balance in
      let u = opening-step s i 123 g true refl in
      let v = closing-step s i 123 g false refl in
      record { before = e.silent; nests = record { bracket = inr g; depth = omega arith }; level = omega arith }

  curly-slice : {v : List ℕ} {at i e d c : ℕ} → get_elem? s at ≡ some c → Plain c → (c ≡ 40 → ⊥) → (c ≡ 123 → ⊥)
      → ((j : ℕ) → Slice s (suc at) v j → Even s (suc at) j) → Slice s (suc at) (v ++ (123 ∷ [])) e → e ≡ suc i → Level at d → Opened at i d
  curly-slice {v} {at} {i} {e} {d} h p x y f q z l =
      let r = slice-split v _ q in
      let b = last_byte r.right in
      let m : r.middle ≡ i = omega arith in
      subst (λ (j : ℕ). Opened at j d) m (opened-curly h p x y (f r.middle r.left) b.0 l)

  pub opener-opens : {w : List ℕ} {b : Bracket} {at i e d : ℕ} → Opener w b → Slice s at w e → e ≡ suc i → (AfterDigit s at → ⊥)
      → Level at d → Opened at i d
  opener-opens {i} {d} Opener.round (cons {i = at} h nil) z c l =
      let u = opening-step s at 40 h true refl in
      let v = closing-step s at 40 h false refl in
      let m : at ≡ i = omega arith in
      subst (λ (j : ℕ). Opened at j d) m (record {
        before = silent-nil s at;
        nests = record { bracket = inl (h, c); depth = omega arith };
        level = omega arith;
      })
  opener-opens (Opener.loop p) (cons h q) z c l =
      curly-slice h (record { not-opening = refl; not-closing = refl }) (omega arith) (omega arith) (λ j r. even-label s p r) q z l
  opener-opens (Opener.fresh p) (cons h q) z c l =
      curly-slice h (record { not-opening = refl; not-closing = refl }) (omega arith) (omega arith) (λ j r. (even-number s p r).0) q z l
  opener-opens (Opener.sandbox p) (cons h q) z c l =
      curly-slice h (record { not-opening = refl; not-closing = refl }) (omega arith) (omega arith) (λ j r. (even-number s p r).0) q z l

  -- ── Answers ──

  -- nothing before an item makes its round bracket an event's
  abbrev Ready : Task → ℕ → Type 0
  Ready (read p) at = AfterDigit s at → ⊥
  Ready (more l t) at = Unit {0}

  ready-after : {i b : ℕ} → get_elem? s i ≡ some b → ((d : ℕ) → d < 10 → b ≡ 48 + d → ⊥) → AfterDigit s (suc i) → ⊥
  ready-after {i} {b} h f (j, d, e, l, g) =
      let z : j ≡ i = omega arith in
      f d l (some-injective b (48 + d) (sym h ∙ subst (λ (k : ℕ). get_elem? s k ≡ some (48 + d)) z g))

  -- the signs are no brackets and no digits, and a closer closes
  sign-even : (l : Sign) {i : ℕ} → get_elem? s i ≡ some (sign_byte l) → Even s i (suc i)
  sign-even plus h = even-plain s h (record { not-opening = refl; not-closing = refl }) (omega arith) (omega arith)
  sign-even dot h = even-plain s h (record { not-opening = refl; not-closing = refl }) (omega arith) (omega arith)

  sign-ready : (l : Sign) {i : ℕ} → get_elem? s i ≡ some (sign_byte l) → AfterDigit s (suc i) → ⊥
  sign-ready plus h = ready-after h (λ d l e. omega arith)
  sign-ready dot h = ready-after h (λ d l e. omega arith)

  record Closed (d e : ℕ) : Type 0 where
    level : Level (suc e) d
    silent : Silent s e (suc e)

  shut : {e d : ℕ} (b : ℕ) → get_elem? s e ≡ some b → opens_bracket b ≡ false → closes_bracket b ≡ true → (b ≡ 40 → ⊥) → (b ≡ 123 → ⊥)
      → Level e (suc d) → Closed d e
  shut {e} b h x y u v l =
      let p = opening-step s e b h false x in
      let q = closing-step s e b h true y in
      record { level = omega arith; silent = silent-place s (no-nests s h u v) }

  closes : (b : Bracket) {e d : ℕ} → get_elem? s e ≡ some (closer b) → Level e (suc d) → Closed d e
  closes Bracket.round h l = shut 41 h refl refl (omega arith) (omega arith) l
  closes (Bracket.loop x) h l = shut 125 h refl refl (omega arith) (omega arith) l
  closes (Bracket.fresh x) h l = shut 125 h refl refl (omega arith) (omega arith) l
  closes (Bracket.sandbox x) h l = shut 125 h refl refl (omega arith) (omega arith) l

  -- what opened is a bracket, and no digit
  opened-ready : {at i d : ℕ} → Opened at i d → AfterDigit s (suc i) → ⊥
  opened-ready o =
      elim o.nests.bracket [ inl p ↦ ready-after p.0 (λ d l e. omega arith) | inr p ↦ ready-after p (λ d l e. omega arith) ]

  -- with d brackets open at a place and D allowed
  abbrev Keeps : ℕ → ℕ → ℕ → Out → Type 0
  Keeps D d at (ok t e) = Level e d × Flat D at e
  Keeps D d at (bad c i) = Flat D at i × (c ≡ 16 → Nests s i (suc D))

  keeps_on : {D : ℕ} (d : ℕ) {at e : ℕ} (out : Out) → Flat D at e → Keeps D d e out → Keeps D d at out
  keeps_on d (ok t f) x y = (y.0, flat_append x y.1)
  keeps_on d (bad c i) x y = (flat_append x y.0, y.1)

  pub keeps : {k : Task} {at n : ℕ} {out : Out} → Reads s k at n out → (D d : ℕ) → d + n ≡ D → Level at d → Ready k at → Keeps D d at out
  keeps (Reads.first_bad p) D d x l r = keeps p D d x l r
  keeps (Reads.first {out} p q) D d x l r =
      let h = keeps p D d x l r in
      keeps_on d out h.1 (keeps q D d x h.0 tt)
  keeps {at} (Reads.done y) D d x l r = (l, flat-silent (silent-nil s at))
  keeps {at} (Reads.next_bad {l = sign} y p) D d x l r =
      let e = sign-even sign (is_true _ _ y) in
      let b = e.balance in
      keeps_on d (bad _ _) (flat-silent e.silent) (keeps p D d x (omega arith) (sign-ready sign (is_true _ _ y)))
  keeps {at} (Reads.next {l = sign} {e = f} {out = out} y p q) D d x l r =
      let e = sign-even sign (is_true _ _ y) in
      let b = e.balance in
      let h = keeps p D d x (omega arith) (sign-ready sign (is_true _ _ y)) in
      keeps_on d out (flat_append (flat-silent e.silent) h.1) (keeps q D d x h.0 tt)
  keeps {at} (Reads.wrong y) D d x l r = (flat-silent (says_of s at y).silent, λ e. absurd (let z : ⊥ = omega arith in z))
  keeps {at} (Reads.atom y) D d x l r =
      let (w, p, q) = says_of s at y in
      let e = even-atom s q p in
      let b = e.balance in
      (omega arith, flat-silent e.silent)
  keeps {at} (Reads.deep {i} y) D d x l r =
      let (w, p, q) = says_of s at y in
      let o = opener-opens q p refl r l in
      let z : d ≡ D = omega arith in
      (flat-silent o.before, λ e. subst (λ (m : ℕ). Nests s i (suc m)) z o.nests)
  keeps {at} (Reads.inner_bad {i} y p) D d x l r =
      let (w, q, u) = says_of s at y in
      let o = opener-opens u q refl r l in
      keeps_on (suc d) (bad _ _) (flat_append (flat-silent o.before) (flat-place o.nests (omega arith)))
      (keeps p D (suc d) (omega arith) o.level (opened-ready o))
  keeps {at} (Reads.unclosed {i} y p z) D d x l r =
      let (w, q, u) = says_of s at y in
      let o = opener-opens u q refl r l in
      let h = keeps p D (suc d) (omega arith) o.level (opened-ready o) in (
        flat_append (flat_append (flat-silent o.before) (flat-place o.nests (omega arith))) h.1,
        λ e. absurd
            (let z : ⊥ = omega arith in z),
      )
  keeps {at} (Reads.bracket {i} {b} y p z) D d x l r =
      let (w, q, u) = says_of s at y in
      let o = opener-opens u q refl r l in
      let h = keeps p D (suc d) (omega arith) o.level (opened-ready o) in
      let c = closes b (is_true _ _ z) h.0 in (
        c.level,
        flat_append (flat_append (flat_append (flat-silent o.before) (flat-place o.nests (omega arith))) h.1)
            (flat-silent c.silent),
      )
