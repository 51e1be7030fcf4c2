-- The two names lines of a sheet of policies: no text has both, an accepted sheet has the one that it was read by, and after it all is
-- the same.
use Prim.Native.Nat.{ℕ, zero, suc, ◌≤◌}
use mathlib.Core.Path.{◌≡◌, refl, sym, ap, ◌∙◌}
use mathlib.Core.Bool.{Bool, true, false, cond}
use mathlib.Core.List.{List, [], ◌∷◌}
use mathlib.Core.Logic.{◌↔◌}
use native.Mathlib.Omega.{arith}
use lib.Dec.{ltb}
use lib.ListN.{length, drop}
use borrow.Author.Tests.{eqb-true, ltb-false, le-ltb}
use Rattle.usage.specs.Limits.{longest_sheet}
use Rattle.usage.specs.Answers.{Refusal}
use Rattle.usage.proofs.Logic.{clash, and_left, false-true}
use Rattle.sheet_bytes.specs.Line.{Line, lines_of}
use Rattle.sheet_bytes.specs.Fault.{LineRead, has_values, has_fault, read_line}
use Rattle.sheet_lines.specs.Sheet.{Sheet, after_line, Result, accepted, refused, refuse_at, followed, entry, value_lines, starts_with, sheet}
use Rattle.sheet_lines.specs.Sheets.{policy_names_lem, policy_sheet, is_local}

pub names-short : (local : Bool) → length (policy_names_lem local) ≤ 29
names-short true = omega arith
names-short false = omega arith

-- no text has both names lines
one-names : (text : List ℕ) → starts_with (policy_names_lem true) text ≡ true → starts_with (policy_names_lem false) text ≡ true → ⊥
unfolding starts_with
one-names [] e f = false-true e
one-names (b ∷ text) e f =
    let x : 108 ≡ b = eqb-true 108 b (and_left _ _ e) in
    let y : 112 ≡ b = eqb-true 112 b (and_left _ _ f) in
    absurd (omega arith)

-- an accepted sheet has its names line
named : (s : Sheet) (text : List ℕ) (rows : List (List ℕ)) → sheet s text ≡ accepted rows → starts_with s.names text ≡ true
unfolding sheet
named s text rows e = go (ltb longest_sheet (length text)) (starts_with s.names text) e
  where
    go : (x y : Bool) → cond x (refuse_at 0 5) (cond y (value_lines s 2 s.most (lines_of (drop (length s.names) text))) (refuse_at 1 1))
        ≡ accepted rows → y ≡ true
    go true y e = clash (cc)
    go false true e = refl
    go false false e = clash (cc)

-- the choice that an accepted sheet was read by is that of its names line
pub accepted-choice : (local : Bool) (text : List ℕ) (rows : List (List ℕ)) → sheet (policy_sheet local) text ≡ accepted rows
    → is_local text ≡ local
unfolding is_local
accepted-choice true text rows e = named (policy_sheet true) text rows e
accepted-choice false text rows e = go (starts_with (policy_names_lem true) text) refl
  where
    go : (x : Bool) → starts_with (policy_names_lem true) text ≡ x → x ≡ false
    go true q = absurd (one-names text q (named (policy_sheet false) text rows e))
    go false q = refl

-- ── Refusal 1 ──

stated : (line number : ℕ) (r : Refusal) → refuse_at line number ≡ refused r → line ≡ r.line
stated line number r e = let z : record { line = line; number = number } ≡ r = cc in rw (← z) refl

-- a refusal of the value lines stands on one of them
lines_from : (s : Sheet) (line left : ℕ) (ls : List Line) (r : Refusal) → value_lines s line left ls ≡ refused r → line ≤ r.line
unfolding value_lines
lines_from s line left [] r e = clash (cc)
lines_from s line zero (l ∷ ls) r e = let h = stated line 4 r e in omega arith
lines_from s line (suc left) (l ∷ ls) r e =
    go (read_line s.fields l) (λ t. value_lines t (suc line) left ls) (λ t. lines_from t (suc line) left ls r) e
  where
    later : (vs : List ℕ) (rest : Result) → (rest ≡ refused r → suc line ≤ r.line) → followed vs rest ≡ refused r → line ≤ r.line
    later vs (accepted rows) ih e = clash (cc)
    later vs (refused q) ih e = let h = ih e in omega arith

    tested : (vs : List ℕ) (rest : Result) (x y : Bool) → (rest ≡ refused r → suc line ≤ r.line)
        → cond x (cond y (followed vs rest) (refuse_at line 14)) (refuse_at line 3) ≡ refused r → line ≤ r.line
    tested vs rest true true ih e = later vs rest ih e
    tested vs rest true false ih e = let h = stated line 14 r e in omega arith
    tested vs rest false y ih e = let h = stated line 3 r e in omega arith

    go : (o : LineRead) (rest : Sheet → Result) → ((t : Sheet) → rest t ≡ refused r → suc line ≤ r.line)
        → entry s line o rest ≡ refused r → line ≤ r.line
    go (has_fault number) rest ih e = let h = stated line number r e in omega arith
    go (has_values vs) rest ih e = tested vs (rest (after_line s vs)) (s.in_range_lem vs) (s.together (vs ∷ [])) (ih (after_line s vs)) e

-- "1 names line differs, is missing or lacks its line feed": that is the case of 1, after 5
pub refused-names : (s : Sheet) (text : List ℕ)
    → (sheet s text ≡ refuse_at 1 1) ↔ ((length text ≤ longest_sheet) × (starts_with s.names text ≡ false))
unfolding sheet
refused-names s text = (λ e. go (ltb longest_sheet (length text)) (starts_with s.names text) refl e, back)
  where
    go : (x y : Bool) → ltb longest_sheet (length text) ≡ x
        → cond x (refuse_at 0 5) (cond y (value_lines s 2 s.most (lines_of (drop (length s.names) text))) (refuse_at 1 1)) ≡ refuse_at 1 1
        → (length text ≤ longest_sheet) × (y ≡ false)
    go true y q e = let h = stated 0 5 record { line = 1; number = 1 } e in absurd (omega arith)
    go false true q e =
        let h = lines_from s 2 s.most (lines_of (drop (length s.names) text)) record { line = 1; number = 1 } e in
        absurd (omega arith)
    go false false q e = (ltb-false longest_sheet (length text) q, refl)

    back : (length text ≤ longest_sheet) × (starts_with s.names text ≡ false) → sheet s text ≡ refuse_at 1 1
    back h = rw (le-ltb longest_sheet (length text) h.0, h.1) refl

-- "Refusal 1 now means neither names line" (02, L7)
pub neither-names : (text : List ℕ) → (sheet (policy_sheet (is_local text)) text ≡ refuse_at 1 1)
    ↔ ((length text ≤ longest_sheet) × ((starts_with (policy_names_lem true) text ≡ false) × (starts_with (policy_names_lem false) text ≡ false)))
unfolding is_local
neither-names text = (to, back)
  where
    Neither : Type 0
    Neither = (length text ≤ longest_sheet)
        × ((starts_with (policy_names_lem true) text ≡ false) × (starts_with (policy_names_lem false) text ≡ false))

    to : sheet (policy_sheet (starts_with (policy_names_lem true) text)) text ≡ refuse_at 1 1 → Neither
    to e = go (starts_with (policy_names_lem true) text) refl e
      where
        go : (x : Bool) → starts_with (policy_names_lem true) text ≡ x → sheet (policy_sheet x) text ≡ refuse_at 1 1 → Neither
        go true q e = false-true (sym ((refused-names (policy_sheet true) text).0 e).1 ∙ q)
        go false q e = let h = (refused-names (policy_sheet false) text).0 e in (h.0, (q, h.1))

    back : Neither → sheet (policy_sheet (starts_with (policy_names_lem true) text)) text ≡ refuse_at 1 1
    back h = rw h.1.0 ((refused-names (policy_sheet false) text).1 (h.0, h.1.1))

-- ── After the names line ──

-- with another names line
abbrev renamed : Sheet → List ℕ → Sheet
renamed s names = record { names = names; most = s.most; fields = s.fields; in_range_lem = s.in_range_lem; together = s.together }

lines-renamed : (s : Sheet) (m n : List ℕ) (line left : ℕ) (ls : List Line)
    → value_lines (renamed s m) line left ls ≡ value_lines (renamed s n) line left ls
unfolding value_lines
lines-renamed s m n line left [] = refl
lines-renamed s m n line zero (l ∷ ls) = refl
lines-renamed s m n line (suc left) (l ∷ ls) = go (read_line s.fields l) (λ t. lines-renamed t m n (suc line) left ls)
  where
    go : (o : LineRead)
        → ((t : Sheet) → value_lines (renamed t m) (suc line) left ls ≡ value_lines (renamed t n) (suc line) left ls)
        → entry (renamed s m) line o (λ t. value_lines t (suc line) left ls)
        ≡ entry (renamed s n) line o (λ t. value_lines t (suc line) left ls)
    go (has_fault number) ih = refl
    go (has_values vs) ih =
        ap (λ (r : Result). cond (s.in_range_lem vs) (cond (s.together (vs ∷ [])) (followed vs r) (refuse_at line 14)) (refuse_at line 3))
        (ih (after_line s vs))

-- the value lines are read the same
pub lines-alike : (line left : ℕ) (ls : List Line)
    → value_lines (policy_sheet true) line left ls ≡ value_lines (policy_sheet false) line left ls
lines-alike = lines-renamed (policy_sheet false) (policy_names_lem true) (policy_names_lem false)
