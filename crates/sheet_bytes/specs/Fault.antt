-- What is wrong with a line: "Tell malformed lines apart" (02, L2).
use Rattle.std.specs.Prelude.{ℕ, ◌+◌, ◌<◌, ◌≡◌, Bool, true, false, cond, eqb, ltb, length}
use Rattle.std.proofs.Math.Option.{Option, none, some}
use mathlib.Core.List.{List, [], ◌∷◌, ◌++◌, Memᴰ}
use Rattle.usage.specs.Limits.{most_digits}
use Rattle.sheet_bytes.specs.Class.{class_of}
use Rattle.sheet_bytes.specs.Line.{Line, values_of}
use Rattle.sheet_bytes.specs.Grammar.{Digits, Values}

-- ── Mistakes, as rules to read ──

-- "byte that is no digit, space or line feed"
pub record HasOther (bs : List ℕ) : Type 0 where
  pub byte : ℕ
  pub is_there : Memᴰ byte bs
  pub is_other : class_of byte ≡ 3

-- "12 now means more than ten digits" (02, L9): a value is a run of digits, wherever it stands in the line
pub record HasOverlong (bs : List ℕ) : Type 0 where
  pub front : List ℕ
  pub run : List ℕ
  pub back : List ℕ
  pub whole : bs ≡ front ++ (run ++ back)
  pub count : ℕ
  pub value : ℕ
  pub digits : Digits count value run
  pub long : most_digits < count

-- a line of n fields with these values
pub record WellFormed (n : ℕ) (l : Line) (vs : List ℕ) : Type 0 where
  pub is_ended : l.ended ≡ true
  pub has : Values vs l.bytes
  pub all_fields : length vs ≡ n

-- a line of n fields that is refused with this number: "13 last line feed missing, 11 .., 12 ..; within a line in the order 13, 11, 12,
-- 2"; "2 is left for a wrong count of values or a space out of place"
pub data LineFault (n : ℕ) (l : Line) : ℕ → Type 0 where
  no_feed : l.ended ≡ false → LineFault n l 13
  other_byte : l.ended ≡ true → HasOther l.bytes → LineFault n l 11
  overlong : l.ended ≡ true → (HasOther l.bytes → ⊥) → HasOverlong l.bytes → LineFault n l 12
  form : l.ended ≡ true → (HasOther l.bytes → ⊥) → (HasOverlong l.bytes → ⊥)
      → ((vs : List ℕ) → WellFormed n l vs → ⊥) → LineFault n l 2

-- ── The same, as a function. proofs/FaultLaws has that it decides them. ──

unfoldable pub has_other : List ℕ → Bool
has_other [] = false
has_other (b ∷ bs) = cond (eqb (class_of b) 3) true (has_other bs)

-- of bytes that follow d digits
unfoldable pub has_overlong : ℕ → List ℕ → Bool
has_overlong d [] = false
has_overlong d (b ∷ bs) = cond (eqb (class_of b) 0) (cond (ltb d most_digits) (has_overlong (d + 1) bs) true) (has_overlong 0 bs)

-- A line as it is read: its values, or the number of its fault.
pub data LineRead : Type 0 where
  has_values : List ℕ → LineRead
  has_fault : ℕ → LineRead

-- Of a line that has its line feed or not, another byte or not, an overlong value or not, and these values: "within a line in the order 13,
-- 11, 12, 2".
abbrev pub told : Bool → Bool → Bool → Option (List ℕ) → LineRead
told false other long vs = has_fault 13
told true true long vs = has_fault 11
told true false true vs = has_fault 12
told true false false none = has_fault 2
told true false false (some vs) = has_values vs

unfoldable pub read_line : ℕ → Line → LineRead
read_line n l = told l.ended (has_other l.bytes) (has_overlong 0 l.bytes) (values_of n l)
