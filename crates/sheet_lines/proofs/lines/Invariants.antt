use Rattle.sheet_fields.specs.declared.Kind.{Kind}
use Rattle.sheet_lines.specs.Sheets.{sheet_of}
use Rattle.sheet_lines.specs.Code.{sheet_after, Held}
use Rattle.sheet_lines.proofs.LinesLaws.{whole, AtLine, InLine}
use mathlib.Core.List.{List}
use Prim.Native.Nat.{ℕ, ◌-◌, ◌≤◌}
use lib.ListN.{length, drop}
use Rattle.sheet_lines.proofs.lines.Given as goal

-- what reading the whole text gives
abbrev pub whole_text : Kind → ℕ → List ℕ → Held
whole_text kind from text = whole (sheet_of kind) (drop from text)

abbrev pub invariant-bytes : goal.invariant-bytes
invariant-bytes l =
    (l.initial.i ≤ l.i) × InLine (sheet_after l.kind l.pairs) l.text (whole_text l.kind l.from l.text) l.initial.buffer l.buffer l.i l.n l.p

abbrev pub decreases-bytes : goal.decreases-bytes
decreases-bytes l = length l.text - l.i

abbrev pub invariant-lines : goal.invariant-lines
invariant-lines l =
    AtLine (sheet_after l.kind l.pairs) l.text (whole_text l.kind l.from l.text) l.initial.buffer l.buffer l.i l.n

abbrev pub decreases-lines : goal.decreases-lines
decreases-lines l = length l.text - l.i
