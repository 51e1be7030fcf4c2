-- What only the functions compute: one more byte of a line of n fields.
use Rattle.std.specs.Prelude.{ℕ, ◌+◌, ◌-◌, ◌*◌, ◌%◌, ◌^◌, Bool, cond, not, ◌&&◌, eqb, ltb}
use Rattle.usage.specs.Limits.{most_digits, resources}
use Rattle.usage.specs.declared.Reason.{Reason}
use Rattle.usage.specs.declared.Reason.TheVariants.{Form, Range, OtherByte, Overlong}
use Rattle.sheet_bytes.specs.declared.class.Class.{Class}
use Rattle.sheet_bytes.specs.declared.class.Class.TheVariants.{Digit, Space, LineFeed, Other}
use Rattle.sheet_bytes.specs.declared.Part.{Part}
use Rattle.sheet_bytes.specs.declared.Next.{Next}
use Rattle.sheet_bytes.specs.declared.Next.TheVariants.{Goes, Ends, Malformed}
use Rattle.sheet_bytes.specs.Class.{class_of}

-- a value of so many digits is below this
abbrev pub value_limit : ℕ
value_limit = 10 ^ most_digits

-- a value of so many digits is one that a field may have
abbrev pub safe_digits : ℕ
safe_digits = most_digits - 1

-- no field goes beyond the resources: what it may hold is below this
abbrev pub value_room : ℕ
value_room = resources

-- the class of a byte, as `class_of` numbers it
abbrev pub class_number : Class → ℕ
class_number Digit = 0
class_number Space = 1
class_number LineFeed = 2
class_number Other = 3

-- ── The gravest fault of a line so far ──

-- none is 0, and of two the greater is told: the reverse of "11, 12, 2", and 3 after it
abbrev pub of_range : ℕ
of_range = 1

abbrev pub of_form : ℕ
of_form = 2

abbrev pub of_length : ℕ
of_length = 3

abbrev pub of_byte : ℕ
of_byte = 4

abbrev pub fault_reason : ℕ → Reason
fault_reason f = cond (eqb f of_form) Form (cond (eqb f of_byte) OtherByte Overlong)

abbrev pub with_fault_lem : Part → ℕ → Part
with_fault_lem p f =
    cond (ltb p.fault f) record { count = p.count; digits = p.digits; value = p.value; fault = f } p

-- ── One more byte ──

-- a value with one more digit
abbrev pub value_with : ℕ → ℕ → ℕ
value_with v b = v % value_room * 10 + (b - 48)

-- one more digit makes it this value
abbrev pub with_digit : Part → ℕ → Part
with_digit p v = record { count = p.count; digits = p.digits + 1; value = v; fault = p.fault }

-- the last digit that a value may have can take it out of every field's range
abbrev pub last_digit_lem : Part → ℕ → Part
last_digit_lem p v =
    cond (ltb p.digits most_digits) (cond (ltb v value_room) (with_digit p v) (with_fault_lem (with_digit p 0) of_range)) (with_fault_lem p of_length)

abbrev pub digit_step : Part → ℕ → Part
digit_step p b = cond (ltb p.digits safe_digits) (with_digit p (value_with p.value b)) (last_digit_lem p (value_with p.value b))

-- a space after the last value of a line of n fields ends the line or parts it from a value too many
abbrev pub space_step : ℕ → Part → Part
space_step n p = cond (eqb p.digits 0)
    (cond (eqb p.count 0) (with_fault_lem p of_form) p)
    (cond (ltb (p.count + 1) n) record { count = p.count + 1; digits = 0; value = 0; fault = p.fault }
    (with_fault_lem record { count = p.count; digits = 0; value = 0; fault = p.fault } of_form))

-- at the line feed the last of n values must have been read
abbrev pub is_complete : ℕ → Part → Bool
is_complete n p = not (eqb p.digits 0) && eqb (p.count + 1) n

-- a value out of range counts only in a line that is well formed
abbrev pub fault_end : ℕ → Part → Next
fault_end n p = cond (eqb p.fault of_range) (cond (is_complete n p) (Malformed Range) (Malformed Form)) (Malformed (fault_reason p.fault))

abbrev pub end_step : ℕ → Part → Next
end_step n p = cond (eqb p.fault 0) (cond (is_complete n p) Ends (Malformed Form)) (fault_end n p)

-- of a byte other than a line feed
abbrev pub part_step : ℕ → Part → ℕ → Part
part_step n p b = cond (eqb (class_of b) 0) (digit_step p b) (cond (eqb (class_of b) 1) (space_step n p) (with_fault_lem p of_byte))

unfoldable pub byte_step : ℕ → Part → ℕ → Next
byte_step n p b = cond (eqb (class_of b) 2) (end_step n p) (Goes (part_step n p b))
