-- The function that reads a line decides the rules of its faults, and a line without a fault is one of the grammar.
use Prim.Native.Nat.{ℕ, ◌+◌, ◌-◌, ◌*◌, ◌<◌, ◌≤◌}
use mathlib.Core.Path.{◌≡◌, refl, sym, ap, ◌∙◌}
use mathlib.Core.Bool.{Bool, true, false, cond}
use mathlib.Core.Logic.{◌↔◌}
use mathlib.Core.Option.{Option, none, some}
use mathlib.Core.List.Memᴰ
use mathlib.Core.List.{
  List,
  [],
  ◌∷◌,
  ◌++◌,
  append_assoc,
  Memᴰ,
}
use native.Mathlib.Omega.{arith}
use native.Mathlib.Nat.{add-zero, add_assoc}
use lib.Dec.{eqb, ltb}
use lib.ListN.{length}
use lib.Seq.{append_snoc}
use borrow.Author.Tests.{eqb-true, eq-eqb, lt-ltb, le-ltb, ltb-true, ltb-false}
use Rattle.usage.specs.Limits.{most_digits}
use Rattle.usage.proofs.Logic.{clash, by_cases, false-true}
use Rattle.sheet_bytes.specs.Class.{class_of}
use Rattle.sheet_bytes.specs.Line.{Line, Progress, nothing, digit, further, space, read, complete, counted, values_of}
use Rattle.sheet_bytes.specs.Grammar.{Digits, no_digit, one_more}
use Rattle.sheet_bytes.specs.Fault.{
  HasOther,
  HasOverlong,
  WellFormed,
  LineFault,
  no_feed,
  other_byte,
  overlong,
  form,
  has_other,
  has_overlong,
}
use Rattle.sheet_bytes.specs.Fault.{has_values, has_fault, told, read_line}
use Rattle.sheet_bytes.proofs.GrammarLaws.{grammar}

-- ── A byte that is no digit, space or line feed ──

other-found : (bs : List ℕ) → has_other bs ≡ true → HasOther bs
unfolding has_other
other-found [] e = false-true e
other-found (b ∷ bs) e = go (eqb (class_of b) 3) refl (other-found bs) e
  where
    go : (x : Bool) → eqb (class_of b) 3 ≡ x → (has_other bs ≡ true → HasOther bs) → cond x true (has_other bs) ≡ true → HasOther (b ∷ bs)
    go true q ih e = record { byte = b; is_there = Memᴰ.head refl; is_other = eqb-true (class_of b) 3 q }
    go false q ih e =
        let h = ih e in record { byte = h.byte; is_there = Memᴰ.tail h.is_there; is_other = h.is_other }

other-there : (b : ℕ) (bs : List ℕ) → Memᴰ b bs → class_of b ≡ 3 → has_other bs ≡ true
unfolding has_other
other-there b [] m k = absurd (Memᴰ.not-nil m)
other-there b (c ∷ cs) m k =
    by_cases (Memᴰ.cases_cons m) (λ e. rw (eq-eqb (class_of c) 3 (ap class_of (sym e) ∙ k)) refl)
    (λ i. go (eqb (class_of c) 3) (other-there b cs i k))
  where
    go : (x : Bool) → has_other cs ≡ true → cond x true (has_other cs) ≡ true
    go true ih = refl
    go false ih = ih

pub decides-other : (bs : List ℕ) → (has_other bs ≡ true) ↔ HasOther bs
decides-other bs = (other-found bs, λ h. other-there h.byte bs h.is_there h.is_other)

-- ── A value of too many digits ──

overlong-found : (bs run : List ℕ) (d v : ℕ) → Digits d v run → has_overlong d bs ≡ true → HasOverlong (run ++ bs)
unfolding has_overlong
overlong-found [] run d v g e = false-true e
overlong-found (b ∷ bs) run d v g e =
    go (eqb (class_of b) 0) (ltb d most_digits) refl refl (overlong-found bs) e
  where
    more : class_of b ≡ 0 → Digits (d + 1) (v * 10 + (b - 48)) (run ++ (b ∷ []))
    more k = one_more b k g

    go : (x y : Bool) → eqb (class_of b) 0 ≡ x → ltb d most_digits ≡ y
        → ((r : List ℕ) (c w : ℕ) → Digits c w r → has_overlong c bs ≡ true → HasOverlong (r ++ bs))
        → cond x (cond y (has_overlong (d + 1) bs) true) (has_overlong 0 bs) ≡ true → HasOverlong (run ++ (b ∷ bs))
    go true true p q ih e = rw (append_snoc run b bs) at
        (ih (run ++ (b ∷ [])) (d + 1) (v * 10 + (b - 48)) (more (eqb-true (class_of b) 0 p)) e)
    go true false p q ih e = record {
      front = [];
      run = run ++ (b ∷ []);
      back = bs;
      whole = sym (append_snoc run b bs);
      count = d + 1;
      value = v * 10 + (b - 48);
      digits = more (eqb-true (class_of b) 0 p);
      long = omega (arith, ltb-false d most_digits q);
    }
    go false y p q ih e =
        let h = ih [] 0 0 no_digit e in
        record {
          front = run ++ (b ∷ h.front);
          run = h.run;
          back = h.back;
          whole = ap (λ l. run ++ (b ∷ l)) h.whole ∙ sym (append_assoc run (b ∷ h.front) (h.run ++ h.back));
          count = h.count;
          value = h.value;
          digits = h.digits;
          long = h.long;
        }

-- digits that do not make a value too long are passed
digits-passed : (d : ℕ) {n v : ℕ} {run : List ℕ} → Digits n v run → d + n ≤ most_digits → (rest : List ℕ)
    → has_overlong d (run ++ rest) ≡ has_overlong (d + n) rest
unfolding has_overlong
digits-passed d no_digit h rest = ap (λ (k : ℕ). has_overlong k rest) (sym (add-zero d))
digits-passed d (one_more {n} {v} {bs} b k g) h rest =
    ap (has_overlong d) (append_snoc bs b rest) ∙ digits-passed d g (omega arith) (b ∷ rest)
    ∙ rw (k, lt-ltb (d + n) most_digits (omega arith)) (ap (λ (k : ℕ). has_overlong k rest) (add_assoc d n 1))

digits-overlong : (d : ℕ) {n v : ℕ} {run : List ℕ} → Digits n v run → d ≤ most_digits → most_digits < d + n → (rest : List ℕ)
    → has_overlong d (run ++ rest) ≡ true
unfolding has_overlong
digits-overlong d no_digit h l rest = absurd (omega arith)
digits-overlong d (one_more {n} {v} {bs} b k g) h l rest =
    ap (has_overlong d) (append_snoc bs b rest) ∙ go (ltb most_digits (d + n)) refl (λ m r. digits-overlong d g h m r)
  where
    go : (x : Bool) → ltb most_digits (d + n) ≡ x → (most_digits < d + n → (r : List ℕ) → has_overlong d (bs ++ r) ≡ true)
        → has_overlong d (bs ++ (b ∷ rest)) ≡ true
    go true q ih = ih (ltb-true most_digits (d + n) q) (b ∷ rest)
    go false q ih =
        let z = ltb-false most_digits (d + n) q in
        digits-passed d g z (b ∷ rest) ∙ rw (k, le-ltb (d + n) most_digits (omega arith)) refl

overlong-there : (front : List ℕ) (d : ℕ) → d ≤ most_digits → {n v : ℕ} {run : List ℕ} → Digits n v run → most_digits < n → (back : List ℕ)
    → has_overlong d (front ++ (run ++ back)) ≡ true
unfolding has_overlong
overlong-there [] d h g l back = digits-overlong d g h (omega arith) back
overlong-there (b ∷ front) d h {n} {v} {run} g l back =
    go (eqb (class_of b) 0) (ltb d most_digits) refl (λ k. overlong-there front (d + 1) k g l back)
    (overlong-there front 0 (omega arith) g l back)
  where
    go : (x y : Bool) → ltb d most_digits ≡ y → (d + 1 ≤ most_digits → has_overlong (d + 1) (front ++ (run ++ back)) ≡ true)
        → has_overlong 0 (front ++ (run ++ back)) ≡ true
        → cond x (cond y (has_overlong (d + 1) (front ++ (run ++ back))) true) (has_overlong 0 (front ++ (run ++ back))) ≡ true
    go true true q inside after = inside (omega (arith, ltb-true d most_digits q))
    go true false q inside after = refl
    go false y q inside after = after

pub decides-overlong : (bs : List ℕ) → (has_overlong 0 bs ≡ true) ↔ HasOverlong bs
decides-overlong bs = (
  overlong-found bs [] 0 0 no_digit,
  λ h. ap (has_overlong 0) h.whole ∙ overlong-there h.front 0 (omega arith) h.digits h.long h.back,
)

-- ── What is read has neither ──

nothing_read : (bs : List ℕ) → read none bs ≡ none
unfolding read
nothing_read [] = refl
nothing_read (b ∷ bs) = nothing_read bs

abbrev Neither : ℕ → List ℕ → Type 0
Neither d bs = (has_other bs ≡ false) × (has_overlong d bs ≡ false)

stopped : {A : Type 0} (bs : List ℕ) (q : Progress) → read none bs ≡ some q → A
stopped bs q e = let n = nothing_read bs in clash (cc)

neither : (bs : List ℕ) (p q : Progress) → read (some p) bs ≡ some q → Neither p.digits bs
unfolding read has_other has_overlong
neither [] p q e = (refl, refl)
neither (b ∷ bs) p q e = go (eqb (class_of b) 0) (eqb (class_of b) 1) refl refl (λ r. neither bs r q) e
  where
    of-digit : (x : Bool) → ltb p.digits most_digits ≡ x → class_of b ≡ 0
        → ((r : Progress) → read (some r) bs ≡ some q → Neither r.digits bs)
        → read (cond x (some record { values = p.values; digits = p.digits + 1; value = p.value * 10 + (b - 48) }) none) bs ≡ some q
        → Neither p.digits (b ∷ bs)
    of-digit true l k ih e =
        rw (k, l) (ih record { values = p.values; digits = p.digits + 1; value = p.value * 10 + (b - 48) } e)
    of-digit false l k ih e = stopped bs q e

    of-further : (vs : List ℕ) → p.digits ≡ 0 → class_of b ≡ 1 → ((r : Progress) → read (some r) bs ≡ some q → Neither r.digits bs)
        → read (further p vs) bs ≡ some q → Neither p.digits (b ∷ bs)
    of-further [] z k ih e = stopped bs q e
    of-further (v ∷ vs) z k ih e = rw k (rw z at (ih p e))

    of_space : (x : Bool) → eqb p.digits 0 ≡ x → class_of b ≡ 1 → ((r : Progress) → read (some r) bs ≡ some q → Neither r.digits bs)
        → read (cond x (further p p.values) (some record { values = p.values ++ (p.value ∷ []); digits = 0; value = 0 })) bs ≡ some q
        → Neither p.digits (b ∷ bs)
    of_space true z k ih e = of-further p.values (eqb-true p.digits 0 z) k ih e
    of_space false z k ih e = rw k (ih record { values = p.values ++ (p.value ∷ []); digits = 0; value = 0 } e)

    go : (x y : Bool) → eqb (class_of b) 0 ≡ x → eqb (class_of b) 1 ≡ y
        → ((r : Progress) → read (some r) bs ≡ some q → Neither r.digits bs)
        → read (cond x (digit p b) (cond y (space p) none)) bs ≡ some q → Neither p.digits (b ∷ bs)
    go true y k m ih e = of-digit (ltb p.digits most_digits) refl (eqb-true (class_of b) 0 k) ih e
    go false true k m ih e = of_space (eqb p.digits 0) refl (eqb-true (class_of b) 1 m) ih e
    go false false k m ih e = stopped bs q e

values-neither : (bs vs : List ℕ) → complete (read (some nothing) bs) ≡ some vs → Neither 0 bs
values-neither bs vs e = go (read (some nothing) bs) refl e
  where
    go : (o : Option Progress) → read (some nothing) bs ≡ o → complete o ≡ some vs → Neither 0 bs
    go none r e = clash (cc)
    go (some q) r e = neither bs nothing q r

-- ── What the grammar says of a line ──

counted-some : (n : ℕ) (o : Option (List ℕ)) (vs : List ℕ) → counted n o ≡ some vs → (o ≡ some vs) × (length vs ≡ n)
counted-some n none vs e = clash (cc)
counted-some n (some us) vs e = go (eqb (length us) n) refl e
  where
    go : (x : Bool) → eqb (length us) n ≡ x → cond x (some us) none ≡ some vs → (◌≡◌ {A = Option (List ℕ)} (some us) (some vs))
        × (length vs ≡ n)
    go true q e = let same : us ≡ vs = cc in (e, ap length (sym same) ∙ eqb-true (length us) n q)
    go false q e = clash (cc)

module _ (n : ℕ) (l : Line) where
  abbrev whole-read : Option (List ℕ)
  whole-read = complete (read (some nothing) l.bytes)

  -- a line has its values exactly where the grammar has it as a line of these values
  values-formed : (vs : List ℕ) → values_of n l ≡ some vs → WellFormed n l vs
  unfolding values_of
  values-formed vs e = go l.ended refl e
    where
      go : (x : Bool) → l.ended ≡ x → cond x (counted n whole-read) none ≡ some vs → WellFormed n l vs
      go true p e =
          let h = counted-some n whole-read vs e in
          record { is_ended = p; has = (grammar vs l.bytes).0 h.0; all_fields = h.1 }
      go false p e = clash (cc)

  formed-values : (vs : List ℕ) → WellFormed n l vs → values_of n l ≡ some vs
  unfolding values_of
  formed-values vs w =
      let e : whole-read ≡ some vs = (grammar vs l.bytes).1 w.has in
      rw (w.is_ended, e, eq-eqb (length vs) n w.all_fields) refl

  -- ── The fault of a line ──

  no_other : has_other l.bytes ≡ false → HasOther l.bytes → ⊥
  no_other q h = false-true (sym q ∙ (decides-other l.bytes).1 h)

  no-overlong : has_overlong 0 l.bytes ≡ false → HasOverlong l.bytes → ⊥
  no-overlong q h = false-true (sym q ∙ (decides-overlong l.bytes).1 h)

  never_other : (HasOther l.bytes → ⊥) → has_other l.bytes ≡ false
  never_other f = go (has_other l.bytes) refl
    where
      go : (x : Bool) → has_other l.bytes ≡ x → x ≡ false
      go true q = absurd (f ((decides-other l.bytes).0 q))
      go false q = refl

  never-overlong : (HasOverlong l.bytes → ⊥) → has_overlong 0 l.bytes ≡ false
  never-overlong f = go (has_overlong 0 l.bytes) refl
    where
      go : (x : Bool) → has_overlong 0 l.bytes ≡ x → x ≡ false
      go true q = absurd (f ((decides-overlong l.bytes).0 q))
      go false q = refl

  never-formed : ((vs : List ℕ) → WellFormed n l vs → ⊥) → values_of n l ≡ none
  never-formed f = go (values_of n l) refl
    where
      go : (o : Option (List ℕ)) → values_of n l ≡ o → o ≡ none
      go none q = refl
      go (some vs) q = absurd (f vs (values-formed vs q))

  fault-read : {k : ℕ} → LineFault n l k → read_line n l ≡ has_fault k
  unfolding read_line
  fault-read (no_feed p) = rw p refl
  fault-read (other_byte p h) = rw (p, (decides-other l.bytes).1 h) refl
  fault-read (overlong p f h) = rw (p, never_other f, (decides-overlong l.bytes).1 h) refl
  fault-read (form p f g w) = rw (never-formed w, p, never_other f, never-overlong g) refl

  read-fault : (k : ℕ) → read_line n l ≡ has_fault k → LineFault n l k
  unfolding read_line
  read-fault k e = go l.ended (has_other l.bytes) (has_overlong 0 l.bytes) (values_of n l) refl refl refl refl e
    where
      none-formed : values_of n l ≡ none → (vs : List ℕ) → WellFormed n l vs → ⊥
      none-formed q vs w = let p = formed-values vs w in clash (cc)

      go : (x y z : Bool) (o : Option (List ℕ)) → l.ended ≡ x → has_other l.bytes ≡ y → has_overlong 0 l.bytes ≡ z → values_of n l ≡ o
          → told x y z o ≡ has_fault k → LineFault n l k
      go true true z o p q r t e = let s : 11 ≡ k = cc in rw (← s) (other_byte p ((decides-other l.bytes).0 q))
      go true false true o p q r t e =
          let s : 12 ≡ k = cc in rw (← s) (overlong p (no_other q) ((decides-overlong l.bytes).0 r))
      go true false false none p q r t e = let s : 2 ≡ k = cc in rw (← s) (form p (no_other q) (no-overlong r) (none-formed t))
      go true false false (some vs) p q r t e = clash (cc)
      go false y z o p q r t e = let s : 13 ≡ k = cc in rw (← s) (no_feed p)

  -- a line has this fault exactly where it breaks this rule, and none that comes before
  pub decides-fault : (k : ℕ) → (read_line n l ≡ has_fault k) ↔ LineFault n l k
  decides-fault k = (read-fault k, fault-read)

  -- ── The values of a line ──

  read-values : (vs : List ℕ) → read_line n l ≡ has_values vs → values_of n l ≡ some vs
  unfolding read_line
  read-values vs e = go l.ended (has_other l.bytes) (has_overlong 0 l.bytes) (values_of n l) e
    where
      go : (x y z : Bool) (o : Option (List ℕ)) → told x y z o ≡ has_values vs → o ≡ some vs
      go true true z o e = clash (cc)
      go true false true o e = clash (cc)
      go true false false none e = clash (cc)
      go true false false (some us) e = let same : us ≡ vs = cc in ap some same
      go false y z o e = clash (cc)

  formed-read : (vs : List ℕ) → WellFormed n l vs → read_line n l ≡ has_values vs
  unfolding read_line
  formed-read vs w =
      let h = values-neither l.bytes vs ((grammar vs l.bytes).1 w.has) in
      rw (formed-values vs w, w.is_ended, h.0, h.1) refl

  -- a line without a fault is exactly one of the grammar
  pub decides-values : (vs : List ℕ) → (read_line n l ≡ has_values vs) ↔ WellFormed n l vs
  decides-values vs = (λ e. values-formed vs (read-values vs e), formed-read vs)
