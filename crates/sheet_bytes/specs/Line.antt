-- Lines, and the values in a line.
use Rattle.std.specs.Prelude.{ℕ, ◌+◌, ◌-◌, ◌*◌, Bool, true, false, cond, List, [], ◌∷◌, ◌++◌, eqb, ltb, length}
use Rattle.std.proofs.Math.Option.{Option, none, some}
use Rattle.usage.specs.Limits.{most_digits}
use Rattle.sheet_bytes.specs.Class.{class_of}

-- ── The lines of a text ──

-- "Each line ends with one line feed (byte 10)."
pub record Line : Type 0 where
  pub bytes : List ℕ
  pub ended : Bool

-- a byte before the first line of a text
abbrev pub prefixed : ℕ → List Line → List Line
prefixed b [] = record { bytes = b ∷ []; ended = false } ∷ []
prefixed b (l ∷ ls) = record { bytes = b ∷ l.bytes; ended = l.ended } ∷ ls

abbrev pub cut : Bool → ℕ → List Line → List Line
cut true b ls = record { bytes = []; ended = true } ∷ ls
cut false b ls = prefixed b ls

-- A line feed ends a line, and at the end of the text it opens no further one. Bytes after the last line feed are a line.
unfoldable pub lines_of : List ℕ → List Line
lines_of [] = []
lines_of (b ∷ bs) = cut (eqb (class_of b) 2) b (lines_of bs)

-- ── The values of a line ──

-- What has been read of a line, from the left: the values before, and of the value that is being read how many digits and its
-- number so far (0 and 0 at the start of the line and after a space).
pub record Progress : Type 0 where
  pub values : List ℕ
  pub digits : ℕ
  pub value : ℕ

abbrev pub nothing : Progress
nothing = record { values = []; digits = 0; value = 0 }

-- "Let a value have up to ten digits" (02, L9); "leading zeros allowed"
abbrev pub digit : Progress → ℕ → Option Progress
digit p b = cond (ltb p.digits most_digits)
    (some record { values = p.values; digits = p.digits + 1; value = p.value * 10 + (b - 48) })
    none

-- a further space between two values; at the start of a line none may stand
abbrev pub further : Progress → List ℕ → Option Progress
further p [] = none
further p (v ∷ vs) = some p

-- "parted by one or more spaces, none at either end of a line"
abbrev pub space : Progress → Option Progress
space p = cond (eqb p.digits 0) (further p p.values)
    (some record { values = p.values ++ (p.value ∷ []); digits = 0; value = 0 })

-- one more byte of the line; none where no values are so written
abbrev pub byte : Option Progress → ℕ → Option Progress
byte none b = none
byte (some p) b = cond (eqb (class_of b) 0) (digit p b) (cond (eqb (class_of b) 1) (space p) none)

unfoldable pub read : Option Progress → List ℕ → Option Progress
read p [] = p
read p (b ∷ bs) = read (byte p b) bs

-- at the end of the line a value must have been read
abbrev pub complete : Option Progress → Option (List ℕ)
complete none = none
complete (some p) = cond (eqb p.digits 0) none (some (p.values ++ (p.value ∷ [])))

abbrev pub counted : ℕ → Option (List ℕ) → Option (List ℕ)
counted n none = none
counted n (some vs) = cond (eqb (length vs) n) (some vs) none

-- the values of a line of n fields; none of a malformed line (Fault.antt tells malformed lines apart)
unfoldable pub values_of : ℕ → Line → Option (List ℕ)
values_of n l = cond l.ended (counted n (complete (read (some nothing) l.bytes))) none
