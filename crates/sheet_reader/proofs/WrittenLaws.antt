-- A sheet that is written from values in range is read back as these values.
use Prim.Native.Nat.{ℕ, zero, suc, ◌+◌, ◌-◌, ◌*◌, ◌/◌, ◌%◌, ◌^◌, ◌<◌, ◌≤◌}
use mathlib.Core.Path.{◌≡◌, refl, sym, ap, ◌∙◌}
use mathlib.Core.Bool.{Bool, true, false}
use mathlib.Core.List.{List, [], ◌∷◌, ◌++◌, map, flatten, append-nil, append_assoc}
use native.Mathlib.Omega.{arith}
use native.Mathlib.Nat.{pow-suc}
use native.Mathlib.Numerals.{add-one}
use lib.Dec.{eqb}
use lib.ListN.{length, length-append}
use lib.Seq.{drop-append_seam, append_snoc}
use borrow.Author.Tests.{eq-eqb, lt-ltb, le-ltb}
use Rattle.usage.specs.Limits.{most_digits, longest_sheet}
use Rattle.usage.proofs.Logic.{and_both}
use Rattle.sheet_bytes.specs.Class.{class_of}
use Rattle.sheet_bytes.specs.Code.{value_limit}
use Rattle.sheet_bytes.specs.Line.{Line, prefixed, lines_of}
use Rattle.sheet_bytes.specs.Grammar.{Digits, no_digit, one_more, Value, one_space, Values, last_value, next_value}
use Rattle.sheet_bytes.proofs.FaultLaws.{decides-values}
use Rattle.sheet_lines.specs.Sheet.{Sheet, after_line, accepted, followed, value_lines, starts_with, sheet}
use Rattle.sheet_lines.specs.Sheets.{policy_names_lem, policy_sheet}
use Rattle.sheet_lines.proofs.NamesLaws.{lines-alike}
use Rattle.sheet_reader.proofs.Written.{digits, written-values, written-line, written}
use Rattle.sheet_lines.proofs.AcceptLaws.{asking, Together, Rows, no_row, row}
use Rattle.sheet_fields.proofs.BelowLaws.{Below, one_below}
use Rattle.sheet_lines.proofs.ScanLaws.{fed}

pub digit-class : (d : ℕ) → d < 10 → class_of (48 + d) ≡ 0
unfolding class_of
digit-class d h = rw (le-ltb (48 + d) 48 (omega arith), lt-ltb (48 + d) 58 (omega arith)) refl

digits-length : (n v : ℕ) → length (digits n v) ≡ n
unfolding digits
digits-length zero v = refl
digits-length (suc n) v = omega (arith, length-append (digits n (v / 10)) ((48 + v % 10) ∷ []), digits-length n (v / 10))

-- its digits and one byte to a value
values_length : (v : ℕ) (vs : List ℕ) → length (written-line (v ∷ vs)) ≡ suc most_digits * length (v ∷ vs)
unfolding written-values
values_length v [] = omega (arith, length-append (digits most_digits v) (10 ∷ []), digits-length most_digits v)
values_length v (w ∷ vs) =
    omega (
      arith,
      length-append (digits most_digits v ++ (32 ∷ written-values w vs)) (10 ∷ []),
      length-append (digits most_digits v) (32 ∷ written-values w vs),
      digits-length most_digits v,
      length-append (written-values w vs) (10 ∷ []),
      values_length w vs,
    )

-- ── What is written is in the grammar ──

digits-written : (n v : ℕ) → v < 10 ^ n → Digits n v (digits n v)
unfolding digits
digits-written zero v h = let z : 0 ≡ v = omega arith in rw (← z) no_digit
digits-written (suc n) v h =
    rw (tens, add-one n) at (one_more (48 + v % 10) (digit-class (v % 10) (omega arith))
    (digits-written n (v / 10) (fewer (rw (pow-suc 10 n) at h))))
  where
    tens : v / 10 * 10 + (48 + v % 10 - 48) ≡ v
    tens = omega arith

    fewer : v < 10 ^ n * 10 → v / 10 < 10 ^ n
    fewer l = omega arith

value_written : (v : ℕ) → v < value_limit → Value v (digits most_digits v)
value_written v h =
    record { count = most_digits; some_digit = omega arith; few = omega arith; digits = digits-written most_digits v h }

values-written : (v : ℕ) (vs : List ℕ) → Below value_limit (v ∷ vs) → Values (v ∷ vs) (written-values v vs)
unfolding written-values class_of
values-written v [] (one_below h b) = last_value (value_written v h)
values-written v (w ∷ vs) (one_below h b) = next_value (value_written v h) (one_space 32 refl) (values-written w vs b)

-- ── It is one line ──

-- digits before the first line of a text
pub digits-lines : {n v : ℕ} {ds : List ℕ} → Digits n v ds → (bs : List ℕ) (l : Line) (ls : List Line) → lines_of bs ≡ l ∷ ls
    → lines_of (ds ++ bs) ≡ record { bytes = ds ++ l.bytes; ended = l.ended } ∷ ls
unfolding lines_of
digits-lines no_digit bs l ls e = e
digits-lines (one_more {bs = ds} b c d) bs l ls e =
    ap lines_of (append_snoc ds b bs)
    ∙ digits-lines d (b ∷ bs) record { bytes = b ∷ l.bytes; ended = l.ended } ls (rw (c, e) refl)
    ∙ ap (λ (xs : List ℕ). record { bytes = xs; ended = l.ended } ∷ ls) (sym (append_snoc ds b l.bytes))

digits-before : (n v : ℕ) (bs : List ℕ) (l : Line) (ls : List Line) → lines_of bs ≡ l ∷ ls
    → lines_of (digits n v ++ bs) ≡ record { bytes = digits n v ++ l.bytes; ended = l.ended } ∷ ls
unfolding digits lines_of
digits-before zero v bs l ls e = e
digits-before (suc n) v bs l ls e =
    ap lines_of (append_snoc (digits n (v / 10)) (48 + v % 10) bs)
    ∙ digits-before n (v / 10) ((48 + v % 10) ∷ bs) record { bytes = (48 + v % 10) ∷ l.bytes; ended = l.ended } ls one
    ∙ ap (λ (xs : List ℕ). record { bytes = xs; ended = l.ended } ∷ ls) (sym (append_snoc (digits n (v / 10)) (48 + v % 10) l.bytes))
  where
    one : lines_of ((48 + v % 10) ∷ bs) ≡ record { bytes = (48 + v % 10) ∷ l.bytes; ended = l.ended } ∷ ls
    one = rw (digit-class (v % 10) (omega arith), e) refl

values-line : (v : ℕ) (vs bs : List ℕ) → lines_of (written-values v vs ++ (10 ∷ bs)) ≡ fed (written-values v vs) ∷ lines_of bs
unfolding written-values lines_of class_of
values-line v [] bs =
    digits-before most_digits v (10 ∷ bs) (fed []) (lines_of bs) refl
    ∙ ap (λ (xs : List ℕ). fed xs ∷ lines_of bs) (append-nil (digits most_digits v))
values-line v (w ∷ vs) bs =
    ap lines_of (append_assoc (digits most_digits v) (32 ∷ written-values w vs) (10 ∷ bs))
    ∙ digits-before most_digits v (32 ∷ (written-values w vs ++ (10 ∷ bs))) (fed (32 ∷ written-values w vs)) (lines_of bs)
    (ap (prefixed 32) (values-line w vs bs))

-- one line in range, which may stand after those before it
line_read : (s : Sheet) (line left : ℕ) (vs bs : List ℕ) → length vs ≡ s.fields → 0 < s.fields → s.in_range_lem vs ≡ true
    → s.together (vs ∷ []) ≡ true → Below value_limit vs
    → value_lines s line (suc left) (lines_of (written-line vs ++ bs))
    ≡ followed vs (value_lines (after_line s vs) (suc line) left (lines_of bs))
unfolding value_lines
line_read s line left [] bs k f m t b = absurd (omega arith)
line_read s line left (v ∷ vs) bs k f m t b =
    let w = (decides-values s.fields (fed (written-values v vs)) (v ∷ vs)).1 record {
      is_ended = refl;
      has = values-written v vs b;
      all_fields = k;
    } in
    ap (λ (xs : List ℕ). value_lines s line (suc left) (lines_of xs)) (append_snoc (written-values v vs) 10 bs)
    ∙ ap (value_lines s line (suc left)) (values-line v vs bs)
    ∙ rw (w, m, t) refl

pub data RowsBelow (m : ℕ) : List (List ℕ) → Type 0 where
  none_below : RowsBelow m []
  row_below : {vs : List ℕ} {rows : List (List ℕ)} → Below m vs → RowsBelow m rows → RowsBelow m (vs ∷ rows)

pub nothing_left : (s : Sheet) (line left : ℕ) → value_lines s line left (lines_of []) ≡ accepted []
unfolding value_lines lines_of
nothing_left s line left = refl

rows-read : (s : Sheet) (f : List (List ℕ) → Bool) (line left : ℕ) {rows : List (List ℕ)} → 0 < s.fields → Rows s rows
    → Together (asking s f) rows → RowsBelow value_limit rows → length rows ≤ left
    → value_lines (asking s f) line left (lines_of (flatten (map written-line rows))) ≡ accepted rows
unfolding flatten
rows-read s f line left z no_row t none_below h = nothing_left (asking s f) line left
rows-read s f line zero z (row k m r) t b h = absurd (omega arith)
rows-read s f line (suc left) z (row {vs} {rows} k m r) t (row_below b bs) h =
    line_read (asking s f) line left vs (flatten (map written-line rows)) k z m (t 1) b
    ∙ ap (followed vs) (rows-read s (λ rows. f (vs ∷ rows)) (suc line) left z r (λ k. t (suc k)) bs (omega arith))

starts-self : (names rest : List ℕ) → starts_with names (names ++ rest) ≡ true
unfolding starts_with
starts-self [] rest = refl
starts-self (b ∷ bs) rest = and_both (eqb b b) (starts_with bs (bs ++ rest)) (eq-eqb b b refl) (starts-self bs rest)

-- a text that begins with the names line is read by its value lines
pub names-read : (s : Sheet) (rest : List ℕ) → length (s.names ++ rest) ≤ longest_sheet
    → sheet s (s.names ++ rest) ≡ value_lines s 2 s.most (lines_of rest)
unfolding sheet
names-read s rest short =
    rw (le-ltb longest_sheet (length (s.names ++ rest)) short, starts-self s.names rest, drop-append_seam s.names rest)

-- the two sheets of policies differ in their names lines alone: what follows them is read the same, as far as both are short enough
pub policies-alike : (rest : List ℕ) → length (policy_names_lem true ++ rest) ≤ longest_sheet → length (policy_names_lem false ++ rest) ≤ longest_sheet
    → sheet (policy_sheet true) (policy_names_lem true ++ rest) ≡ sheet (policy_sheet false) (policy_names_lem false ++ rest)
policies-alike rest short long =
    names-read (policy_sheet true) rest short ∙ lines-alike 2 (policy_sheet true).most (lines_of rest)
    ∙ sym (names-read (policy_sheet false) rest long)

-- the sheet that is written from rows in range is accepted with these rows
pub written_read : (s : Sheet) (rows : List (List ℕ)) → 0 < s.fields → Rows s rows → Together s rows → RowsBelow value_limit rows
    → length rows ≤ s.most → length (written s rows) ≤ longest_sheet
    → sheet s (written s rows) ≡ accepted rows
written_read s rows f r t b few short =
    names-read s (flatten (map written-line rows)) short
    ∙ rows-read s s.together 2 s.most f r t b few

pub lines-length : (s : Sheet) {rows : List (List ℕ)} → 0 < s.fields → Rows s rows
    → length (flatten (map written-line rows)) ≡ length (flatten rows) * suc most_digits
unfolding flatten
lines-length s f no_row = refl
lines-length s f (row {vs} {rows} k m r) = go vs k (lines-length s f r)
  where
    go : (us : List ℕ) → length us ≡ s.fields → length (flatten (map written-line rows)) ≡ length (flatten rows) * suc most_digits
        → length (written-line us ++ flatten (map written-line rows)) ≡ length (us ++ flatten rows) * suc most_digits
    go [] k ih = absurd (omega arith)
    go (v ∷ vs) k ih =
        omega (
          arith,
          length-append (written-line (v ∷ vs)) (flatten (map written-line rows)),
          length-append (v ∷ vs) (flatten rows),
          values_length v vs,
          ih,
        )
