-- What only the functions behind `sheet` compute.
use Rattle.std.specs.Prelude.{Result as Returned, Ok, Err, ℕ, ◌+◌, ◌*◌, not, length, get_or, take, drop}
use mathlib.Core.List.{List, [], ◌∷◌, ◌++◌, flatten}
use Rattle.usage.specs.declared.Reason.{Reason}
use Rattle.usage.specs.declared.SheetRefusal.{SheetRefusal}
use Rattle.usage.specs.Reasons.{number_of}
use Rattle.automaton.specs.PairSet.{with_pair, many_in}
use Rattle.sheet_fields.specs.declared.Kind.{Kind}
use Rattle.sheet_fields.specs.declared.Kind.TheVariants.{Policies, Trace, Outline}
use Rattle.sheet_bytes.specs.declared.Part.{Part}
use Rattle.sheet_lines.specs.Sheet.{Sheet, Result, accepted, refused}
use Rattle.sheet_lines.specs.Sheets.{sheet_of}

abbrev pub empty_part : Part
empty_part = record { count = 0; digits = 0; value = 0; fault = 0 }

-- the answer after n accepted lines: how many there are, or the reason why the next one is refused
abbrev pub answer_after_lem : ℕ → Returned ℕ Reason → Returned ℕ SheetRefusal
answer_after_lem n (Ok count) = Ok count
answer_after_lem n (Err reason) = Err record { line = n + 2; reason = reason }

-- ── The pair policies of the lines so far, as a bit set ──

-- with a line of these values; only lines of policies have such
abbrev pub pairs_with : Kind → ℕ → List ℕ → ℕ
pairs_with (Policies local) m vs = with_pair m (get_or vs 0 0) (get_or vs 3 0)
pairs_with Trace m vs = m
pairs_with Outline m vs = m

-- with further lines
unfoldable pub pairs_over : Kind → ℕ → List (List ℕ) → ℕ
pairs_over k m [] = m
pairs_over k m (vs ∷ rows) = pairs_over k (pairs_with k m vs) rows

-- the sheet that the lines make after those with these pair policies
abbrev pub sheet_after : Kind → ℕ → Sheet
sheet_after k m = record {
  names = (sheet_of k).names;
  most = (sheet_of k).most;
  fields = (sheet_of k).fields;
  in_range_lem = (sheet_of k).in_range_lem;
  together = λ rows. not (many_in (pairs_over k m rows));
}

-- ── What a text is read into ──

-- so many lines, with these values one after the other; or a refusal
pub data Held : Type 0 where
  held : ℕ → List ℕ → Held
  refusing : ℕ → ℕ → Held

-- the answer of the code with what stands in its buffer, n values to a line; after a refusal the buffer does not count
abbrev pub held_by : ℕ → Returned ℕ SheetRefusal → List ℕ → Held
held_by n (Ok count) buffer = held count (take (count * n) buffer)
held_by n (Err r) buffer = refusing r.line (number_of r.reason)

-- what stands in the buffer after the values
abbrev pub rest_after : ℕ → Returned ℕ SheetRefusal → List ℕ → List ℕ
rest_after n (Ok count) buffer = drop (count * n) buffer
rest_after n (Err r) buffer = []

-- a result after so many lines with these values
abbrev pub held_onto : ℕ → List ℕ → Result → Held
held_onto n done (accepted rows) = held (n + length rows) (done ++ flatten rows)
held_onto n done (refused r) = refusing r.line r.number
