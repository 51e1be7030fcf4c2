-- A sheet: "a line of names and then lines of values in that order". What differs from sheet to sheet is a record.
use Rattle.std.specs.Prelude.{ℕ, zero, suc, Bool, true, false, cond, ◌&&◌, List, [], ◌∷◌, eqb, ltb, length, drop}
use Rattle.usage.specs.Limits.{longest_sheet}
use Rattle.usage.specs.Answers.{Refusal}
use Rattle.sheet_bytes.specs.Line.{Line, lines_of}
use Rattle.sheet_bytes.specs.Fault.{LineRead, has_values, has_fault, read_line}

pub record Sheet : Type 0 where
  -- the names line, with its line feed
  pub names : List ℕ
  -- how many value lines are allowed
  pub most : ℕ
  -- how many values are on a line
  pub fields : ℕ
  -- whether the values of a line are in the ranges of their fields
  pub in_range_lem : List ℕ → Bool
  -- whether the values of the lines up to one may stand in one sheet
  pub together : List (List ℕ) → Bool

-- the sheet that the lines after one with these values make
abbrev pub after_line : Sheet → List ℕ → Sheet
after_line s vs = record {
  names = s.names;
  most = s.most;
  fields = s.fields;
  in_range_lem = s.in_range_lem;
  together = λ rows. s.together (vs ∷ rows);
}

-- What reading a sheet gives: the values of each line, or a refusal.
pub data Result : Type 0 where
  accepted : List (List ℕ) → Result
  refused : Refusal → Result

-- "A refusal returns its number, for a sheet also the line, counted from 1 (0 where none)"
abbrev pub refuse_at : ℕ → ℕ → Result
refuse_at line number = refused record { line = line; number = number }

-- the values of a line before those of the lines after it
abbrev pub followed : List ℕ → Result → Result
followed vs (accepted rows) = accepted (vs ∷ rows)
followed vs (refused r) = refused r

-- the fault of a line (02, L2: "13, 11, 12, 2, where 2 stood"), then "3 a value outside its field's range", then "14 an edge with on 3 that
-- makes a third pair policy, at that line after 3" (02, L10)
abbrev pub entry : Sheet → ℕ → LineRead → (Sheet → Result) → Result
entry s line (has_fault number) rest = refuse_at line number
entry s line (has_values vs) rest =
    cond (s.in_range_lem vs) (cond (s.together (vs ∷ [])) (followed vs (rest (after_line s vs))) (refuse_at line 14)) (refuse_at line 3)

-- "then line by line 4, 2, 3": the value lines from line `line` on, of which `left` are allowed
unfoldable pub value_lines : Sheet → ℕ → ℕ → List Line → Result
value_lines s line left [] = accepted []
value_lines s line zero (l ∷ ls) = refuse_at line 4
value_lines s line (suc left) (l ∷ ls) = entry s line (read_line s.fields l) (λ t. value_lines t (suc line) left ls)

unfoldable pub starts_with : List ℕ → List ℕ → Bool
starts_with [] text = true
starts_with (b ∷ bs) [] = false
starts_with (b ∷ bs) (c ∷ cs) = eqb b c && starts_with bs cs

-- "Order: 5, 1, then line by line 4, 2, 3"; "5 longer than 32,768 bytes (line 0)"; "1 names line differs, is missing or lacks
-- its line feed (line 1)"
unfoldable pub sheet : Sheet → List ℕ → Result
sheet s text = cond (ltb longest_sheet (length text)) (refuse_at 0 5)
    (cond (starts_with s.names text) (value_lines s 2 s.most (lines_of (drop (length s.names) text))) (refuse_at 1 1))
