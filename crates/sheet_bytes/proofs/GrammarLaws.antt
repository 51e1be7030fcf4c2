-- A line is read as values exactly where the grammar has it as these values.
use Prim.Native.Nat.{ℕ, ◌+◌, ◌-◌, ◌*◌, ◌<◌, ◌≤◌}
use mathlib.Core.Path.{◌≡◌, refl, sym, ap, subst, ◌∙◌}
use mathlib.Core.Bool.{Bool, true, false, cond}
use mathlib.Core.Logic.{◌⊎◌, inl, inr, ◌↔◌}
use mathlib.Core.Option.{Option, none, some}
use mathlib.Core.List.{List, [], ◌∷◌, ◌++◌, append-nil}
use native.Mathlib.Omega.{arith}
use lib.Dec.{eqb, ltb}
use lib.Seq.{append_snoc}
use borrow.Author.Tests.{eqb-true, ne_eqb, lt-ltb, ltb-true}
use Rattle.usage.specs.Limits.{most_digits}
use Rattle.usage.proofs.Logic.{clash, by_cases}
use Rattle.sheet_bytes.specs.Class.{class_of}
use Rattle.sheet_bytes.specs.Line.{Progress, nothing, further, byte, read, complete}
use Rattle.sheet_bytes.specs.Grammar.{Digits, no_digit, one_more, Value, Spaces, one_space, further_space, Values, last_value}
use Rattle.sheet_bytes.specs.Grammar.{next_value}

abbrev at : List ℕ → ℕ → ℕ → Progress
at us n v = record { values = us; digits = n; value = v }

-- ── What the grammar has is read ──

pub read-append : (o : Option Progress) (xs bs : List ℕ) → read o (xs ++ bs) ≡ read (read o xs) bs
unfolding read
read-append o [] bs = refl
read-append o (x ∷ xs) bs = read-append (byte o x) xs bs

digit-byte : (us : List ℕ) (n v b : ℕ) → class_of b ≡ 0 → n < most_digits
    → byte (some (at us n v)) b ≡ some (at us (n + 1) (v * 10 + (b - 48)))
digit-byte us n v b k h = rw (k, lt-ltb n most_digits h) refl

digits-read : (us : List ℕ) {n v : ℕ} {cs : List ℕ} → Digits n v cs → n ≤ most_digits → read (some (at us 0 0)) cs ≡ some (at us n v)
unfolding read
digits-read us no_digit h = refl
digits-read us (one_more {n} {v} {bs} b k d) h =
    read-append (some (at us 0 0)) bs (b ∷ []) ∙ ap (λ o. byte o b) (digits-read us d (omega arith)) ∙ digit-byte us n v b k (omega arith)

further-read : (u : ℕ) (us : List ℕ) {sp : List ℕ} → Spaces sp → read (some (at (u ∷ us) 0 0)) sp ≡ some (at (u ∷ us) 0 0)
unfolding read
further-read u us (one_space b k) = rw k refl
further-read u us (further_space {bs} b k s) = ap (λ o. read o bs) (rw k refl) ∙ further-read u us s

after-value : (us : List ℕ) (n v b : ℕ) → 1 ≤ n → class_of b ≡ 1 → byte (some (at us n v)) b ≡ some (at (us ++ (v ∷ [])) 0 0)
after-value us n v b h k = rw (k, ne_eqb n 0 (λ e. absurd (apart e))) refl
  where
    apart : n ≡ 0 → ⊥
    apart e = omega arith

spaces-read : (us : List ℕ) (n v : ℕ) → 1 ≤ n → {sp : List ℕ} → Spaces sp → read (some (at us n v)) sp ≡ some (at (us ++ (v ∷ [])) 0 0)
unfolding read
spaces-read us n v h (one_space b k) = after-value us n v b h k
spaces-read us n v h (further_space {bs} b k s) = ap (λ o. read o bs) (after-value us n v b h k) ∙ again us
  where
    again : (ws : List ℕ) → read (some (at (ws ++ (v ∷ [])) 0 0)) bs ≡ some (at (ws ++ (v ∷ [])) 0 0)
    again [] = further-read v [] s
    again (w ∷ ws) = further-read w (ws ++ (v ∷ [])) s

completed : (us : List ℕ) (n v : ℕ) → 1 ≤ n → complete (some (at us n v)) ≡ some (us ++ (v ∷ []))
completed us n v h = rw (ne_eqb n 0 (λ e. absurd (apart e))) refl
  where
    apart : n ≡ 0 → ⊥
    apart e = omega arith

values-read : (us : List ℕ) {ws bs : List ℕ} → Values ws bs → complete (read (some (at us 0 0)) bs) ≡ some (us ++ ws)
values-read us (last_value {v} w) = ap complete (digits-read us w.digits w.few) ∙ completed us w.count v w.some_digit
values-read us (next_value {v} {vs} {bs} {sp} {cs} w s r) =
    ap complete (read-append (some (at us 0 0)) bs (sp ++ cs) ∙ ap (λ o. read o (sp ++ cs)) (digits-read us w.digits w.few)
    ∙ read-append (some (at us w.count v)) sp cs ∙ ap (λ o. read o cs) (spaces-read us w.count v w.some_digit s))
    ∙ values-read (us ++ (v ∷ [])) r ∙ ap some (append_snoc us v vs)

-- ── What is read the grammar has ──

read_none : {A : Type 0} (bs vs : List ℕ) → complete (read none bs) ≡ some vs → A
unfolding read
read_none [] vs e = clash (cc)
read_none (b ∷ bs) vs e = read_none bs vs e

-- a continuation of the values us: they go on with ws
pub record GoesOn (us vs : List ℕ) (P : List ℕ → Type 0) : Type 0 where
  pub ws : List ℕ
  pub whole : vs ≡ us ++ ws
  pub rest : P ws

-- values after spaces that may go on
abbrev After : List ℕ → List ℕ → Type 0
After bs ws = Values ws bs ⊎ ((sp : List ℕ) × (cs : List ℕ) × Spaces sp × (bs ≡ sp ++ cs) × Values ws cs)

abbrev WithinLaw : List ℕ → List ℕ → Type 0
WithinLaw vs bs =
    (us : List ℕ) (n v : ℕ) (cs : List ℕ) → Digits (n + 1) v cs → n < most_digits → complete (read (some (at us (n + 1) v)) bs) ≡ some vs
    → GoesOn us vs (λ ws. Values ws (cs ++ bs))

abbrev AfterLaw : List ℕ → List ℕ → Type 0
AfterLaw vs bs = (u : ℕ) (us : List ℕ) → complete (read (some (at (u ∷ us) 0 0)) bs) ≡ some vs → GoesOn (u ∷ us) vs (After bs)

module _ (vs : List ℕ) where
  -- one more byte within a value
  within_step : (b : ℕ) (bs : List ℕ) → WithinLaw vs bs → AfterLaw vs bs → WithinLaw vs (b ∷ bs)
  unfolding read
  within_step b bs wi af us n v cs d h e =
      go (eqb (class_of b) 0) (eqb (class_of b) 1) (ltb (n + 1) most_digits) (eqb (n + 1) 0) refl refl refl refl e
    where
      value : Value v cs
      value = record { count = n + 1; some_digit = omega arith; few = omega arith; digits = d }

      spaced : (ts : List ℕ) → complete (read (some (at (ts ++ (v ∷ [])) 0 0)) bs) ≡ some vs → GoesOn (ts ++ (v ∷ [])) vs (After bs)
      spaced [] e = af v [] e
      spaced (t ∷ ts) e = af t (ts ++ (v ∷ [])) e

      none-zero : n + 1 ≡ 0 → ⊥
      none-zero z = omega arith

      go : (x y l z : Bool) → eqb (class_of b) 0 ≡ x → eqb (class_of b) 1 ≡ y → ltb (n + 1) most_digits ≡ l → eqb (n + 1) 0 ≡ z
          → complete (read (cond x (cond l (some (at us (n + 1 + 1) (v * 10 + (b - 48)))) none)
          (cond y (cond z (further (at us (n + 1) v) us) (some (at (us ++ (v ∷ [])) 0 0))) none)) bs) ≡ some vs
          → GoesOn us vs (λ ws. Values ws (cs ++ (b ∷ bs)))
      go true y true z p q r t e =
          let g = wi us (n + 1) (v * 10 + (b - 48)) (cs ++ (b ∷ [])) (one_more b (eqb-true (class_of b) 0 p) d)
          (ltb-true (n + 1) most_digits r) e in
          record { ws = g.ws; whole = g.whole; rest = rw (append_snoc cs b bs) at g.rest }
      go true y false z p q r t e = read_none bs vs e
      go false true l true p q r t e = absurd (none-zero (eqb-true (n + 1) 0 t))
      go false true l false p q r t e =
          let k = eqb-true (class_of b) 1 q in
          let g = spaced us e in
          record {
            ws = v ∷ g.ws;
            whole = g.whole ∙ append_snoc us v g.ws;
            rest = by_cases g.rest (λ w. next_value value (one_space b k) w)
                (λ w. subst (λ (l : List ℕ). Values (v ∷ g.ws) (cs ++ (b ∷ l))) (sym w.3)
                (next_value value (further_space b k w.2) w.4));
          }
      go false false l z p q r t e = read_none bs vs e

  -- one more byte after a space
  after-step : (b : ℕ) (bs : List ℕ) → WithinLaw vs bs → AfterLaw vs bs → AfterLaw vs (b ∷ bs)
  unfolding read
  after-step b bs wi af u us e = go (eqb (class_of b) 0) (eqb (class_of b) 1) refl refl e
    where
      go : (x y : Bool) → eqb (class_of b) 0 ≡ x → eqb (class_of b) 1 ≡ y
          → complete (read (cond x (some (at (u ∷ us) (0 + 1) (0 * 10 + (b - 48)))) (cond y (some (at (u ∷ us) 0 0)) none)) bs) ≡ some vs
          → GoesOn (u ∷ us) vs (After (b ∷ bs))
      go true y p q e =
          let g = wi (u ∷ us) 0 (0 * 10 + (b - 48)) (b ∷ []) (one_more b (eqb-true (class_of b) 0 p) no_digit) (omega arith) e in
          record { ws = g.ws; whole = g.whole; rest = inl g.rest }
      go false true p q e =
          let k = eqb-true (class_of b) 1 q in
          let g = af u us e in
          record {
            ws = g.ws;
            whole = g.whole;
            rest = by_cases g.rest (λ w. inr (b ∷ [], bs, one_space b k, refl, w))
                (λ w. inr (b ∷ w.0, w.1, further_space b k w.2, ap (λ (l : List ℕ). b ∷ l) w.3, w.4));
          }
      go false false p q e = read_none bs vs e

  both : (bs : List ℕ) → WithinLaw vs bs × AfterLaw vs bs
  unfolding read
  both [] = (within_end, λ u us e. clash (cc))
    where
      within_end : WithinLaw vs []
      within_end us n v cs d h e =
          let q : some (us ++ (v ∷ [])) ≡ some vs = sym (completed us (n + 1) v (omega arith)) ∙ e in
          record {
            ws = v ∷ [];
            whole = cc;
            rest = rw (append-nil cs) (last_value (record { count = n + 1; some_digit = omega arith; few = omega arith; digits = d }));
          }
  both (b ∷ bs) = let ih = both bs in (within_step b bs ih.0 ih.1, after-step b bs ih.0 ih.1)

  read-values : (bs : List ℕ) → complete (read (some nothing) bs) ≡ some vs → Values vs bs
  unfolding read
  read-values [] e = clash (cc)
  read-values (b ∷ bs) e = go (eqb (class_of b) 0) (eqb (class_of b) 1) refl e
    where
      go : (x y : Bool) → eqb (class_of b) 0 ≡ x
          → complete (read (cond x (some (at [] (0 + 1) (0 * 10 + (b - 48)))) (cond y none none)) bs) ≡ some vs → Values vs (b ∷ bs)
      go true y p e =
          let g = (both bs).0 [] 0 (0 * 10 + (b - 48)) (b ∷ []) (one_more b (eqb-true (class_of b) 0 p) no_digit) (omega arith) e in
          rw g.whole g.rest
      go false true p e = read_none bs vs e
      go false false p e = read_none bs vs e

  -- a line's bytes are read as values exactly where the grammar has them so
  pub grammar : (bs : List ℕ) → (complete (read (some nothing) bs) ≡ some vs) ↔ Values vs bs
  grammar bs = (read-values bs, λ w. values-read [] w)
