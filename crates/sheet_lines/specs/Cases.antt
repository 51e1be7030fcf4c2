-- The stated case of each number with which a sheet is refused, as rules to read. proofs/CaseLaws has that `sheet` refuses in these cases
-- and in no others.
use Rattle.std.specs.Prelude.{ℕ, suc, ◌+◌, ◌<◌, ◌≡◌, Bool, true, false, List, [], ◌∷◌, ◌++◌, length, take, drop}
use Rattle.std.proofs.Math.Option.{some}
use Rattle.std.proofs.Math.ListN.{get_elem?}
use Rattle.usage.specs.Limits.{longest_sheet}
use Rattle.usage.specs.Answers.{Refusal}
use Rattle.sheet_bytes.specs.Line.{Line, lines_of}
use Rattle.sheet_bytes.specs.Fault.{WellFormed, LineFault}
use Rattle.sheet_lines.specs.Sheet.{Sheet}

-- the lines after the names line, of which line k of a text is the (k - 2)-nd
abbrev pub lines_after : Sheet → List ℕ → List Line
lines_after s text = lines_of (drop (length s.names) text)

-- lines of so many fields with these values, each in its range
pub data HaveValues (fields : ℕ) (in_range_lem : List ℕ → Bool) : List Line → List (List ℕ) → Type 0 where
  no_lines : HaveValues fields in_range_lem [] []
  further_line : {l : Line} {vs : List ℕ} {ls : List Line} {rows : List (List ℕ)} → WellFormed fields l vs → in_range_lem vs ≡ true
      → HaveValues fields in_range_lem ls rows → HaveValues fields in_range_lem (l ∷ ls) (vs ∷ rows)

-- "A refusal returns its number, for a sheet also the line, counted from 1 (0 where none)"
pub data SheetCase (s : Sheet) (text : List ℕ) (line number : ℕ) : Type 0 where
  -- "5 longer than 32,768 bytes (line 0)"
  too_long : longest_sheet < length text → line ≡ 0 → number ≡ 5 → SheetCase s text line number
  -- "1 names line differs, is missing or lacks its line feed (line 1)"
  not_named : ((rest : List ℕ) → text ≡ s.names ++ rest → ⊥) → line ≡ 1 → number ≡ 1 → SheetCase s text line number
  -- "4 more value lines than allowed": at the first that is too many
  too_many : s.most < length (lines_after s text) → line ≡ s.most + 2 → number ≡ 4 → SheetCase s text line number
  -- "13 last line feed missing, 11 .., 12 .., 2", in a line that is allowed
  faulty : {k : ℕ} {l : Line} → line ≡ k + 2 → k < s.most → get_elem? (lines_after s text) k ≡ some l → LineFault s.fields l number
      → SheetCase s text line number
  -- "3 a value outside its field's range"
  outside : {k : ℕ} {l : Line} {vs : List ℕ} → line ≡ k + 2 → k < s.most → get_elem? (lines_after s text) k ≡ some l
      → WellFormed s.fields l vs → s.in_range_lem vs ≡ false → number ≡ 3 → SheetCase s text line number
  -- "14 an edge with on 3 that makes a third pair policy, at that line after 3": on the first line up to which there are three
  crowded : {k : ℕ} {rows : List (List ℕ)} → line ≡ k + 2 → k < s.most → k < length (lines_after s text)
      → HaveValues s.fields s.in_range_lem (take (suc k) (lines_after s text)) rows → s.together rows ≡ false → number ≡ 14
      → SheetCase s text line number

-- "Order: 5, 1, then line by line 4, 2, 3", and 14 after 3: 5 has line 0 and 1 line 1, and on one line of values no two numbers have their
-- case. So it is the case on the lowest line.
pub record SheetRefuses (s : Sheet) (text : List ℕ) (r : Refusal) : Type 0 where
  pub stated : SheetCase s text r.line r.number
  pub first : (line number : ℕ) → line < r.line → SheetCase s text line number → ⊥
