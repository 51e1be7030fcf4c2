-- What the values of all accepted lines are below: those of edges and of nodes fit a byte.
use Prim.Native.Nat.{ℕ}
use mathlib.Core.Path.{◌≡◌}
use mathlib.Core.Bool.{Bool, true}
use mathlib.Core.List.{List, flatten}
use lib.ListN.{length}
use Rattle.sheet_fields.proofs.BelowLaws.{Below, none_left, below-append, edge-below, node-below}
use Rattle.sheet_lines.specs.Sheets.{policy_sheet, outline_sheet}
use Rattle.sheet_lines.specs.Sheet.{Sheet}
use Rattle.sheet_lines.proofs.AcceptLaws.{Rows, no_row, row}

-- the values of all lines, where those of one line in range are below the bound
pub rows-below : (s : Sheet) (m : ℕ) → ((vs : List ℕ) → length vs ≡ s.fields → s.in_range_lem vs ≡ true → Below m vs)
    → {rows : List (List ℕ)} → Rows s rows → Below m (flatten rows)
unfolding flatten
rows-below s m f no_row = none_left
rows-below s m f (row {vs} k r rest) = below-append (f vs k r) (rows-below s m f rest)

pub edges-below : (local : Bool) {rows : List (List ℕ)} → Rows (policy_sheet local) rows → Below 256 (flatten rows)
edges-below local r = rows-below (policy_sheet local) 256 edge-below r

pub nodes-below : {rows : List (List ℕ)} → Rows outline_sheet rows → Below 256 (flatten rows)
nodes-below r = rows-below outline_sheet 256 node-below r
