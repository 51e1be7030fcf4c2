-- What an accepted sheet is: so many lines at most, each of so many values, in their ranges, which may stand in one sheet.
use Prim.Native.Nat.{ℕ, zero, suc, ◌+◌, ◌*◌, ◌≤◌}
use mathlib.Core.Path.{◌≡◌, refl, ◌∙◌}
use mathlib.Core.Bool.{Bool, true, false, cond}
use mathlib.Core.List.{List, [], ◌∷◌, flatten}
use native.Mathlib.Omega.{arith}
use native.Mathlib.Nat.{suc-mul, zero-add}
use lib.Dec.{eqb, ltb}
use lib.ListN.{length, take, drop, length-append}
use Rattle.usage.specs.Limits.{longest_sheet}
use Rattle.usage.proofs.Logic.{clash, and_right, false-true}
use Rattle.sheet_bytes.specs.Line.{Line, lines_of}
use Rattle.sheet_bytes.specs.Fault.{LineRead, has_values, has_fault, read_line}
use Rattle.sheet_bytes.proofs.FaultLaws.{decides-values}
use Rattle.sheet_lines.specs.Sheet.{Sheet, after_line, Result, accepted, refused, refuse_at, followed, entry, value_lines, starts_with, sheet}
use Rattle.sheet_lines.specs.Code.{held, refusing, held_onto}

pub data Rows (s : Sheet) : List (List ℕ) → Type 0 where
  no_row : Rows s []
  row : {vs : List ℕ} {rows : List (List ℕ)} → length vs ≡ s.fields → s.in_range_lem vs ≡ true → Rows s rows → Rows s (vs ∷ rows)

pub record Accepted (s : Sheet) (rows : List (List ℕ)) : Type 0 where
  pub each : Rows s rows
  pub few : length rows ≤ s.most

-- a sheet that asks this of its lines together
abbrev pub asking : Sheet → (List (List ℕ) → Bool) → Sheet
asking s f = record { names = s.names; most = s.most; fields = s.fields; in_range_lem = s.in_range_lem; together = f }

-- the lines may stand in one sheet, however many of them have been read
abbrev pub Together : Sheet → List (List ℕ) → Type 0
Together s rows = (k : ℕ) → s.together (take k rows) ≡ true

-- the first of the lines that are accepted, and the others
pub record Entered (s : Sheet) (o : LineRead) (rest : Sheet → Result) (rows : List (List ℕ)) : Type 0 where
  pub values : List ℕ
  pub others : List (List ℕ)
  pub reads : o ≡ has_values values
  pub ranged : s.in_range_lem values ≡ true
  pub fits : s.together (values ∷ []) ≡ true
  pub accepts : rest (after_line s values) ≡ accepted others
  pub all : values ∷ others ≡ rows

entered : (s : Sheet) (line : ℕ) (o : LineRead) (rest : Sheet → Result) (rows : List (List ℕ)) → entry s line o rest ≡ accepted rows
    → Entered s o rest rows
entered s line (has_fault number) rest rows e = clash (cc)
entered s line (has_values vs) rest rows e = go (s.in_range_lem vs) refl (s.together (vs ∷ [])) refl (rest (after_line s vs)) refl e
  where
    go : (x : Bool) → s.in_range_lem vs ≡ x → (y : Bool) → s.together (vs ∷ []) ≡ y → (r : Result) → rest (after_line s vs) ≡ r
        → cond x (cond y (followed vs r) (refuse_at line 14)) (refuse_at line 3) ≡ accepted rows → Entered s (has_values vs) rest rows
    go true q true t (accepted rs) a e =
        record { values = vs; others = rs; reads = refl; ranged = q; fits = t; accepts = a; all = cc }
    go true q true t (refused r) a e = clash (cc)
    go true q false t r a e = clash (cc)
    go false q y t r a e = clash (cc)

rows_before : (s : Sheet) (vs : List ℕ) {rows : List (List ℕ)} → Rows (after_line s vs) rows → Rows s rows
rows_before s vs no_row = no_row
rows_before s vs (row k m r) = row k m (rows_before s vs r)

pub lines_rows : (s : Sheet) (line left : ℕ) (ls : List Line) (rows : List (List ℕ)) → value_lines s line left ls ≡ accepted rows
    → Rows s rows × (length rows ≤ left)
unfolding value_lines
lines_rows s line left [] rows e = let z : [] ≡ rows = cc in rw (← z) (no_row, omega arith)
lines_rows s line zero (l ∷ ls) rows e = clash (cc)
lines_rows s line (suc left) (l ∷ ls) rows e =
    let t = entered s line (read_line s.fields l) (λ t. value_lines t (suc line) left ls) rows e in
    let h = lines_rows (after_line s t.values) (suc line) left ls t.others t.accepts in
    let few = h.1 in
    rw (← t.all) (
      row ((decides-values s.fields l t.values).0 t.reads).all_fields t.ranged (rows_before s t.values h.0),
      omega arith,
    )

-- and they may stand in one sheet
lines-together : (s : Sheet) (line left : ℕ) (ls : List Line) (rows : List (List ℕ)) → s.together [] ≡ true
    → value_lines s line left ls ≡ accepted rows → s.together rows ≡ true
unfolding value_lines
lines-together s line left [] rows h e = let z : [] ≡ rows = cc in rw (← z) h
lines-together s line zero (l ∷ ls) rows h e = clash (cc)
lines-together s line (suc left) (l ∷ ls) rows h e =
    let t = entered s line (read_line s.fields l) (λ t. value_lines t (suc line) left ls) rows e in
    rw (← t.all) (lines-together (after_line s t.values) (suc line) left ls t.others t.fits t.accepts)

module _ (s : Sheet) where
  pub sheet-accepted : (text : List ℕ) (rows : List (List ℕ)) → sheet s text ≡ accepted rows → Accepted s rows
  unfolding sheet
  sheet-accepted text rows e = go (ltb longest_sheet (length text)) (starts_with s.names text) e
    where
      go : (x y : Bool) → cond x (refuse_at 0 5) (cond y (value_lines s 2 s.most (lines_of (drop (length s.names) text))) (refuse_at 1 1))
          ≡ accepted rows → Accepted s rows
      go true y e = clash (cc)
      go false true e =
          let h = lines_rows s 2 s.most (lines_of (drop (length s.names) text)) rows e in record { each = h.0; few = h.1 }
      go false false e = clash (cc)

  pub sheet-together : (text : List ℕ) (rows : List (List ℕ)) → s.together [] ≡ true → sheet s text ≡ accepted rows
      → s.together rows ≡ true
  unfolding sheet
  sheet-together text rows h e = go (ltb longest_sheet (length text)) (starts_with s.names text) e
    where
      go : (x y : Bool) → cond x (refuse_at 0 5) (cond y (value_lines s 2 s.most (lines_of (drop (length s.names) text))) (refuse_at 1 1))
          ≡ accepted rows → s.together rows ≡ true
      go true y e = clash (cc)
      go false true e = lines-together s 2 s.most (lines_of (drop (length s.names) text)) rows h e
      go false false e = clash (cc)

  pub flat-length : {rows : List (List ℕ)} → Rows s rows → length (flatten rows) ≡ length rows * s.fields
  unfolding flatten
  flat-length no_row = omega arith
  flat-length {rows} (row {vs} {rows =
      rs} k m r) = length-append vs (flatten rs) ∙ rw (suc-mul (length rs) s.fields, k, flat-length r) (omega arith)

-- a text that begins with another is at least as long
pub begins-length : (names text : List ℕ) → starts_with names text ≡ true → length names ≤ length text
unfolding starts_with
begins-length [] text e = omega arith
begins-length (b ∷ bs) [] e = false-true e
begins-length (b ∷ bs) (c ∷ cs) e = let h = begins-length bs cs (and_right (eqb b c) (starts_with bs cs) e) in omega arith

-- what the buffer holds after the loops is the result's values
pub record OfRows (r : Result) (n : ℕ) (vs : List ℕ) : Type 0 where
  pub rows : List (List ℕ)
  pub result : r ≡ accepted rows
  pub count : n ≡ length rows
  pub flat : vs ≡ flatten rows

pub held_rows : (r : Result) (n : ℕ) (vs : List ℕ) → held n vs ≡ held_onto 0 [] r → OfRows r n vs
held_rows (accepted rows) n vs e =
    let c : n ≡ 0 + length rows = cc in record { rows = rows; result = refl; count = c ∙ zero-add (length rows); flat = cc }
held_rows (refused r) n vs e = clash (cc)

pub refusing-result : (r : Result) (line number : ℕ) → refusing line number ≡ held_onto 0 [] r → r ≡ refuse_at line number
refusing-result (accepted rows) line number e = clash (cc)
refusing-result (refused r) line number e = let l : line ≡ r.line = cc in let m : number ≡ r.number = cc in rw (l, m) refl
