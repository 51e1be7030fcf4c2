-- A sheet is refused in the stated case of its refusal's number, and in no other.
use Prim.Native.Nat.{ℕ, zero, suc, ◌+◌, ◌<◌, ◌≤◌}
use mathlib.Core.Path.{◌≡◌, refl, sym, ap, ap₂, subst, ◌∙◌}
use mathlib.Core.Bool.{Bool, true, false, cond}
use mathlib.Core.Option.{some}
use mathlib.Core.List.{List, [], ◌∷◌, ◌++◌}
use mathlib.Core.Logic.{◌↔◌, ◌⊎◌, inl, inr}
use native.Mathlib.Omega.{arith}
use lib.Dec.{eqb, ltb}
use lib.ListN.{length, take, drop, get_elem?}
use borrow.Author.Tests.{eqb-true, eq-eqb, ltb-true, ltb-false}
use Rattle.usage.specs.Limits.{longest_sheet}
use Rattle.usage.specs.Answers.{Refusal}
use Rattle.usage.proofs.Logic.{clash, false-true, not-both, and_left, and_right}
use Rattle.sheet_bytes.specs.Line.{Line, lines_of}
use Rattle.sheet_bytes.specs.Fault.{WellFormed, LineRead, has_values, has_fault, read_line}
use Rattle.sheet_bytes.proofs.FaultLaws.{decides-fault, decides-values}
use Rattle.sheet_lines.specs.Sheet.{Sheet, after_line, Result, accepted, refused, refuse_at, followed, entry, value_lines, starts_with, sheet}
use Rattle.sheet_lines.specs.Cases.{lines_after, HaveValues, no_lines, further_line}
use Rattle.sheet_lines.specs.Cases.{SheetCase, too_long, not_named, too_many, faulty, outside, crowded, SheetRefuses}

abbrev refusal_at : ℕ → ℕ → Refusal
refusal_at line number = record { line = line; number = number }

-- ── The names line ──

begun : (names text : List ℕ) → starts_with names text ≡ true → (rest : List ℕ) × (text ≡ names ++ rest)
unfolding starts_with
begun [] text e = (text, refl)
begun (b ∷ bs) [] e = false-true e
begun (b ∷ bs) (c ∷ cs) e =
    let (rest, h) = begun bs cs (and_right (eqb b c) (starts_with bs cs) e) in
    let q : b ≡ c = eqb-true b c (and_left (eqb b c) (starts_with bs cs) e) in
    (rest, cc)

begins : (names rest : List ℕ) → starts_with names (names ++ rest) ≡ true
unfolding starts_with
begins [] rest = refl
begins (b ∷ bs) rest = rw (eq-eqb b b refl, begins bs rest) refl

-- ── One line ──

-- what a line by itself is refused with
abbrev Bad : Sheet → Line → ℕ → Type 0
Bad s l n =
    (read_line s.fields l ≡ has_fault n) ⊎ ((vs : List ℕ) × (read_line s.fields l ≡ has_values vs) × (s.in_range_lem vs ≡ false) × (n ≡ 3))

-- by itself it has these values, and they are in range
abbrev Reads : Sheet → Line → List ℕ → Type 0
Reads s l vs = (read_line s.fields l ≡ has_values vs) × (s.in_range_lem vs ≡ true)

abbrev Good : Sheet → Line → List ℕ → Type 0
Good s l vs = Reads s l vs × (s.together (vs ∷ []) ≡ true)

bad-unique : (s : Sheet) (l : Line) {n m : ℕ} → Bad s l n → Bad s l m → n ≡ m
bad-unique s l {n} {m} (inl e) (inl f) = let g : has_fault n ≡ has_fault m = sym e ∙ f in cc
bad-unique s l (inl e) (inr (vs, f, r, q)) = let g : has_fault _ ≡ has_values vs = sym e ∙ f in clash (cc)
bad-unique s l (inr (vs, f, r, q)) (inl e) = let g : has_fault _ ≡ has_values vs = sym e ∙ f in clash (cc)
bad-unique s l (inr (vs, f, r, q)) (inr (us, g, t, p)) = q ∙ sym p

reads-bad : (s : Sheet) (l : Line) (vs : List ℕ) {n : ℕ} → Reads s l vs → Bad s l n → ⊥
reads-bad s l vs (e, r) (inl f) = let g : has_fault _ ≡ has_values vs = sym f ∙ e in clash (cc)
reads-bad s l vs (e, r) (inr (us, f, t, q)) =
    let g : has_values us ≡ has_values vs = sym f ∙ e in
    let h : us ≡ vs = cc in
    not-both (s.in_range_lem vs) r (subst (λ (xs : List ℕ). s.in_range_lem xs ≡ false) h t)

-- a line of these values has no others
values-unique : (n : ℕ) (l : Line) (us vs : List ℕ) → WellFormed n l us → read_line n l ≡ has_values vs → us ≡ vs
values-unique n l us vs w e = let g : has_values us ≡ has_values vs = sym ((decides-values n l us).1 w) ∙ e in cc

-- ── The lines, of which `left` are allowed ──

-- they are refused at the k-th, with this number
data Fails : Sheet → ℕ → List Line → ℕ → ℕ → Type 0 where
  one-too-many : {l : Line} {ls : List Line} {k n : ℕ} {s : Sheet} → k ≡ 0 → n ≡ 4 → Fails s zero (l ∷ ls) k n
  here : {left : ℕ} {l : Line} {ls : List Line} {k n : ℕ} {s : Sheet} → k ≡ 0 → Bad s l n → Fails s (suc left) (l ∷ ls) k n
  with-others : {left : ℕ} {l : Line} {ls : List Line} {k n : ℕ} {vs : List ℕ} {s : Sheet} → k ≡ 0 → Reads s l vs
      → s.together (vs ∷ []) ≡ false → n ≡ 14 → Fails s (suc left) (l ∷ ls) k n
  later : {left : ℕ} {l : Line} {ls : List Line} {j k n : ℕ} {vs : List ℕ} {s : Sheet} → Good s l vs → Fails (after_line s vs) left ls j n
      → k ≡ suc j → Fails s (suc left) (l ∷ ls) k n

data Passes : Sheet → ℕ → List Line → Type 0 where
  no_line : {left : ℕ} {s : Sheet} → Passes s left []
  next : {left : ℕ} {l : Line} {ls : List Line} {vs : List ℕ} {s : Sheet} → Good s l vs → Passes (after_line s vs) left ls
      → Passes s (suc left) (l ∷ ls)

-- up to line k they have values, which may not stand together
abbrev Crowded : Sheet → List Line → ℕ → Type 0
Crowded s ls k =
    (k < length ls) × (rows : List (List ℕ)) × HaveValues s.fields s.in_range_lem (take (suc k) ls) rows × (s.together rows ≡ false)

-- the case of line k
data CaseAt (s : Sheet) (left : ℕ) (ls : List Line) (k n : ℕ) : Type 0 where
  beyond : k ≡ left → left < length ls → n ≡ 4 → CaseAt s left ls k n
  alone : (l : Line) → k < left → get_elem? ls k ≡ some l → Bad s l n → CaseAt s left ls k n
  among : k < left → Crowded s ls k → n ≡ 14 → CaseAt s left ls k n

-- what reading the lines from line `line` on gives
data Outcome (s : Sheet) (line left : ℕ) (ls : List Line) : Result → Type 0 where
  passes : {rows : List (List ℕ)} → Passes s left ls → Outcome s line left ls (accepted rows)
  fails : {r : Refusal} (k : ℕ) → Fails s left ls k r.number → r.line ≡ line + k → Outcome s line left ls (refused r)

outcome : (s : Sheet) (line left : ℕ) (ls : List Line) → Outcome s line left ls (value_lines s line left ls)
unfolding value_lines
outcome s line left [] = passes no_line
outcome s line zero (l ∷ ls) = fails {r = record { line = line; number = 4 }} 0 (one-too-many refl refl) (omega arith)
outcome s line (suc left) (l ∷ ls) =
    go (read_line s.fields l) refl (λ t. value_lines t (suc line) left ls) (λ t. outcome t (suc line) left ls)
  where
    behind : (vs : List ℕ) (r : Result) → Good s l vs → Outcome (after_line s vs) (suc line) left ls r
        → Outcome s line (suc left) (l ∷ ls) (followed vs r)
    behind vs (accepted rows) g (passes h) = passes (next g h)
    behind vs (refused r) g (fails k h e) = fails {r = r} (suc k) (later g h refl) (omega arith)

    tested : (vs : List ℕ) (r : Result) → read_line s.fields l ≡ has_values vs → Outcome (after_line s vs) (suc line) left ls r
        → (x : Bool) → s.in_range_lem vs ≡ x → (y : Bool) → s.together (vs ∷ []) ≡ y
        → Outcome s line (suc left) (l ∷ ls) (cond x (cond y (followed vs r) (refuse_at line 14)) (refuse_at line 3))
    tested vs r e o true q true t = behind vs r ((e, q), t) o
    tested vs r e o true q false t = fails {r = refusal_at line 14} 0 (with-others refl (e, q) t refl) (omega arith)
    tested vs r e o false q y t = fails {r = refusal_at line 3} 0 (here refl (inr (vs, e, q, refl))) (omega arith)

    go : (x : LineRead) → read_line s.fields l ≡ x → (r : Sheet → Result) → ((t : Sheet) → Outcome t (suc line) left ls (r t))
        → Outcome s line (suc left) (l ∷ ls) (entry s line x r)
    go (has_fault n) e r o = fails {r = refusal_at line n} 0 (here refl (inl e)) (omega arith)
    go (has_values vs) e r o = tested vs (r (after_line s vs)) e (o (after_line s vs)) (s.in_range_lem vs) refl (s.together (vs ∷ [])) refl

-- the same of the lines one further down
down : (s : Sheet) (left k n : ℕ) (l : Line) (ls : List Line) (vs : List ℕ) → Good s l vs → CaseAt s (suc left) (l ∷ ls) (suc k) n
    → CaseAt (after_line s vs) left ls k n
down s left k n l ls vs g (beyond e h q) = beyond (omega arith) (omega arith) q
down s left k n l ls vs g (alone x h f b) = alone x (omega arith) f b
down s left k n l ls vs g (among h (b, rows, v, t) q) = go rows v t
  where
    go : (rows : List (List ℕ)) → HaveValues s.fields s.in_range_lem (take (suc (suc k)) (l ∷ ls)) rows → s.together rows ≡ false
        → CaseAt (after_line s vs) left ls k n
    go rows (further_line {vs = us} {rows = rest} w m v) t =
        let d : us ≡ vs = values-unique s.fields l us vs w g.0.0 in
        among (omega arith) (omega arith, rest, v, subst (λ (xs : List ℕ). s.together (xs ∷ rest) ≡ false) d t) q

up : (s : Sheet) (left k n : ℕ) (l : Line) (ls : List Line) (vs : List ℕ) → Good s l vs → CaseAt (after_line s vs) left ls k n
    → CaseAt s (suc left) (l ∷ ls) (suc k) n
up s left k n l ls vs g (beyond e h q) = beyond (omega arith) (omega arith) q
up s left k n l ls vs g (alone x h f b) = alone x (omega arith) f b
up s left k n l ls vs g (among h (b, rows, v, t) q) =
    among (omega arith) (omega arith, vs ∷ rows, further_line ((decides-values s.fields l vs).0 g.0.0) g.0.1 v, t) q

-- a line alone
one_line : (s : Sheet) (l : Line) (ls : List Line) (vs : List ℕ) (rows : List (List ℕ)) → read_line s.fields l ≡ has_values vs
    → HaveValues s.fields s.in_range_lem (take 1 (l ∷ ls)) rows → rows ≡ vs ∷ []
one_line s l ls vs rows e (further_line {vs = us} w m no_lines) =
    ap (λ (xs : List ℕ). xs ∷ []) (values-unique s.fields l us vs w e)

first-line : (s : Sheet) (left n : ℕ) (l : Line) (ls : List Line) (vs : List ℕ) → Good s l vs → CaseAt s (suc left) (l ∷ ls) 0 n → ⊥
first-line s left n l ls vs g (beyond e h q) = omega arith
first-line s left n l ls vs g (alone x h e b) =
    let q : l ≡ x = cc in reads-bad s l vs g.0 (subst (λ (y : Line). Bad s y n) (sym q) b)
first-line s left n l ls vs g (among h (b, rows, v, t) q) =
    not-both (s.together (vs ∷ [])) g.1
    (subst (λ (xs : List (List ℕ)). s.together xs ≡ false) (one_line s l ls vs rows g.0.0 v) t)

passes_none : (s : Sheet) {left : ℕ} {ls : List Line} → Passes s left ls → (k n : ℕ) → CaseAt s left ls k n → ⊥
passes_none s no_line k n (beyond e h q) = omega arith
passes_none s no_line k n (alone x h e b) = clash (cc)
passes_none s no_line k n (among h (b, rows, v, t) q) = omega arith
passes_none s (next {left} {l} {ls} {vs} g p) zero n c = first-line s left n l ls vs g c
passes_none s (next {left} {l} {ls} {vs} g p) (suc k) n c = passes_none (after_line s vs) p k n (down s left k n l ls vs g c)

fails-case : (s : Sheet) {left k n : ℕ} {ls : List Line} → Fails s left ls k n → CaseAt s left ls k n
fails-case s (one-too-many e q) = beyond e (omega arith) q
fails-case s (here {l = l} {ls} e b) = alone l (omega arith) (ap (get_elem? (l ∷ ls)) e) b
fails-case s (with-others {left} {l} {ls} {k} {n} {vs} e r t q) =
    subst (λ (i : ℕ). CaseAt s (suc left) (l ∷ ls) i n) (sym e) (among (omega arith)
    (omega arith, vs ∷ [], further_line ((decides-values s.fields l vs).0 r.0) r.1 no_lines, t) q)
fails-case s (later {left} {l} {ls} {j} {k} {n} {vs} g f e) =
    subst (λ (i : ℕ). CaseAt s (suc left) (l ∷ ls) i n) (sym e) (up s left j n l ls vs g (fails-case (after_line s vs) f))

fails-first : (s : Sheet) {left k n : ℕ} {ls : List Line} → Fails s left ls k n → (j m : ℕ) → j < k → CaseAt s left ls j m → ⊥
fails-first s (one-too-many e q) j m h c = omega arith
fails-first s (here e b) j m h c = omega arith
fails-first s (with-others e r t q) j m h c = omega arith
fails-first s (later {left} {l} {ls} {vs = vs} g f e) zero m h c = first-line s left m l ls vs g c
fails-first s (later {left} {l} {ls} {vs = vs} g f e) (suc j) m h c =
    fails-first (after_line s vs) f j m (omega arith) (down s left j m l ls vs g c)

-- where the lines up to one have values the line is not refused by itself
read-line : (s : Sheet) (ls : List Line) (k : ℕ) (rows : List (List ℕ)) (l : Line) (n : ℕ)
    → HaveValues s.fields s.in_range_lem (take (suc k) ls) rows → get_elem? ls k ≡ some l → Bad s l n → ⊥
read-line s [] k rows l n v e b = clash (cc)
read-line s (x ∷ ls) zero rows l n (further_line {vs = vs} w m v) e b =
    let q : x ≡ l = cc in
    reads-bad s x vs ((decides-values s.fields x vs).1 w, m) (subst (λ (y : Line). Bad s y n) (sym q) b)
read-line s (x ∷ ls) (suc k) rows l n (further_line {rows = rest} w m v) e b = read-line s ls k rest l n v e b

case-unique : (s : Sheet) (left : ℕ) (ls : List Line) (k n m : ℕ) → CaseAt s left ls k n → CaseAt s left ls k m → n ≡ m
case-unique s left ls k n m (beyond e h q) (beyond f i p) = q ∙ sym p
case-unique s left ls k n m (beyond e h q) (alone x f g b) = absurd (omega arith)
case-unique s left ls k n m (beyond e h q) (among f c p) = absurd (omega arith)
case-unique s left ls k n m (alone x f g b) (beyond e h q) = absurd (omega arith)
case-unique s left ls k n m (alone x f g b) (alone y h i c) =
    let q : x ≡ y = cc in bad-unique s y (subst (λ (z : Line). Bad s z n) q b) c
case-unique s left ls k n m (alone x f g b) (among h (i, rows, v, t) p) = absurd (read-line s ls k rows x n v g b)
case-unique s left ls k n m (among h c p) (beyond e i q) = absurd (omega arith)
case-unique s left ls k n m (among h (i, rows, v, t) p) (alone x f g b) = absurd (read-line s ls k rows x m v g b)
case-unique s left ls k n m (among h c p) (among i d q) = p ∙ sym q

-- ── The whole sheet ──

module _ (s : Sheet) (text : List ℕ) where
  abbrev Case : ℕ → ℕ → Type 0
  Case = SheetCase s text

  abbrev At : ℕ → ℕ → Type 0
  At = CaseAt s s.most (lines_after s text)

  -- a case on a line of values
  to-case : (k n : ℕ) → At k n → Case (k + 2) n
  to-case k n (beyond e h q) = too_many h (omega arith) q
  to-case k n (alone l h g (inl e)) = faulty refl h g ((decides-fault s.fields l n).0 e)
  to-case k n (alone l h g (inr (vs, e, r, q))) = outside refl h g ((decides-values s.fields l vs).0 e) r q
  to-case k n (among h (b, rows, v, t) q) = crowded refl h b v t q

  -- 5, 1, or a case on a line of values
  data View (line number : ℕ) : Type 0 where
    is-long : longest_sheet < length text → line ≡ 0 → number ≡ 5 → View line number
    is-unnamed : starts_with s.names text ≡ false → line ≡ 1 → number ≡ 1 → View line number
    in-line : (k : ℕ) → line ≡ k + 2 → At k number → View line number

  view : {line number : ℕ} → Case line number → View line number
  view (too_long h e q) = is-long h e q
  view (not_named f e q) = is-unnamed (go (starts_with s.names text) refl) e q
    where
      go : (b : Bool) → starts_with s.names text ≡ b → b ≡ false
      go true g = let (rest, h) = begun s.names text g in absurd (f rest h)
      go false g = refl
  view (too_many h e q) = in-line s.most e (beyond refl h q)
  view (faulty {k} {l} e h g f) = in-line k e (alone l h g (inl ((decides-fault s.fields l _).1 f)))
  view (outside {k} {l} {vs} e h g w r q) = in-line k e (alone l h g (inr (vs, (decides-values s.fields l vs).1 w, r, q)))
  view (crowded {k} {rows} e h b v t q) = in-line k e (among h (b, rows, v, t) q)

  -- one line has the case of one number at most
  view-unique : {line n m : ℕ} → View line n → View line m → n ≡ m
  view-unique (is-long h e q) (is-long i f p) = q ∙ sym p
  view-unique (is-long h e q) (is-unnamed i f p) = absurd (omega arith)
  view-unique (is-long h e q) (in-line k f a) = absurd (omega arith)
  view-unique (is-unnamed h e q) (is-long i f p) = absurd (omega arith)
  view-unique (is-unnamed h e q) (is-unnamed i f p) = q ∙ sym p
  view-unique (is-unnamed h e q) (in-line k f a) = absurd (omega arith)
  view-unique (in-line k f a) (is-long i e p) = absurd (omega arith)
  view-unique (in-line k f a) (is-unnamed i e p) = absurd (omega arith)
  view-unique {n = n} {m = m} (in-line k f a) (in-line j e b) =
      let q : j ≡ k = omega arith in
      case-unique s s.most (lines_after s text) k n m a (subst (λ (i : ℕ). At i m) q b)

  -- what reading the sheet gives
  data Read : Result → Type 0 where
    accepts : {rows : List (List ℕ)} → ((line number : ℕ) → Case line number → ⊥) → Read (accepted rows)
    refuses : {r : Refusal} → SheetRefuses s text r → Read (refused r)

  reads : Read (sheet s text)
  unfolding sheet
  reads = go (ltb longest_sheet (length text)) refl (starts_with s.names text) refl
    where
      lines : length text ≤ longest_sheet → starts_with s.names text ≡ true → (r : Result)
          → Outcome s 2 s.most (lines_after s text) r → Read r
      lines short named (accepted rows) (passes p) = accepts (λ line n c. none (view c))
        where
          none : {line n : ℕ} → View line n → ⊥
          none (is-long h e q) = omega arith
          none (is-unnamed h e q) = not-both (starts_with s.names text) named h
          none {n = n} (in-line k e a) = passes_none s p k n a
      lines short named (refused r) (fails k f e) = refuses record {
        stated = let q : k + 2 ≡ r.line = omega arith in subst (λ (i : ℕ). Case i r.number) q (to-case k r.number (fails-case s f));
        first = λ line n h c. none line n h (view c);
      }
        where
          none : (line n : ℕ) → line < r.line → View line n → ⊥
          none line n h (is-long i g q) = omega arith
          none line n h (is-unnamed i g q) = not-both (starts_with s.names text) named i
          none line n h (in-line j g a) = fails-first s f j n (omega arith) a

      go : (x : Bool) → ltb longest_sheet (length text) ≡ x → (y : Bool) → starts_with s.names text ≡ y
          → Read (cond x (refuse_at 0 5) (cond y (value_lines s 2 s.most (lines_of (drop (length s.names) text))) (refuse_at 1 1)))
      go true e y f = refuses record {
        stated = too_long (ltb-true longest_sheet (length text) e) refl refl;
        first = λ line n h c. absurd (omega arith);
      }
      go false e true f =
          lines (ltb-false longest_sheet (length text) e) f (value_lines s 2 s.most (lines_after s text))
          (outcome s 2 s.most (lines_after s text))
      go false e false f = refuses record {
        stated =
            not_named (λ rest h. not-both (starts_with s.names text)
            (subst (λ (t : List ℕ). starts_with s.names t ≡ true) (sym h) (begins s.names rest)) f) refl refl;
        first = λ line n h c. none line n h (view c);
      }
        where
          none : (line n : ℕ) → line < 1 → View line n → ⊥
          none line n h (is-long i g q) = let short = ltb-false longest_sheet (length text) e in omega arith
          none line n h (is-unnamed i g q) = omega arith
          none line n h (in-line j g a) = omega arith

  -- at most one refusal is the first
  refuses-unique : {r q : Refusal} → SheetRefuses s text r → SheetRefuses s text q → r ≡ q
  refuses-unique {r} {q} h k = go (ltb r.line q.line) refl (ltb q.line r.line) refl
    where
      same : r.line ≡ q.line → r.number ≡ q.number → r ≡ q
      same l n = ap₂ refusal_at l n

      go : (x : Bool) → ltb r.line q.line ≡ x → (y : Bool) → ltb q.line r.line ≡ y → r ≡ q
      go true e y f = absurd (k.first r.line r.number (ltb-true r.line q.line e) h.stated)
      go false e true f = absurd (h.first q.line q.number (ltb-true q.line r.line f) k.stated)
      go false e false f =
          let a = ltb-false r.line q.line e in
          let b = ltb-false q.line r.line f in
          let l : r.line ≡ q.line = omega arith in
          let n : r.number ≡ q.number =
          view-unique (view h.stated) (view (subst (λ (i : ℕ). Case i q.number) (sym l) k.stated)) in
          same l n

  -- "A refusal has its number, in its stated case only"
  pub sheet-refuses : (r : Refusal) → (sheet s text ≡ refused r) ↔ SheetRefuses s text r
  sheet-refuses r = (λ e. to (sheet s text) reads e, λ h. back (sheet s text) reads h)
    where
      to : (x : Result) → Read x → x ≡ refused r → SheetRefuses s text r
      to (accepted rows) o e = clash (cc)
      to (refused q) (refuses h) e = let f : q ≡ r = cc in subst (SheetRefuses s text) f h

      back : (x : Result) → Read x → SheetRefuses s text r → x ≡ refused r
      back (accepted rows) (accepts f) h = absurd (f r.line r.number h.stated)
      back (refused q) (refuses k) h = ap refused (refuses-unique k h)
