-- Positions read from rows of numbers that a caller hands over.
use Rattle.std.specs.Prelude.{ℕ, zero, suc, ◌+◌, ◌-◌, ◌<◌, ◌≤◌, ◌≡◌, Bool, true, ◌&&◌, cond, List, [], ◌∷◌, leb, ltb, get_or}
use Rattle.usage.specs.Limits.{most_nodes, most_names}
use Rattle.usage.specs.Tables.{from}
use Rattle.desk_positions.specs.Positions.{most_parts, Item, at, shut, Position, same_meanings}
use Rattle.desk_positions.specs.Rows.{row_width, base, row_of, row_in}

-- part j of a row: a node, or behind the nodes a closing
abbrev pub item_in : List ℕ → ℕ → Item
item_in row j =
    cond (ltb (get_or row (base j) 0) most_nodes)
    (at (get_or row (base j) 0)
    (get_or row (base j + 1) 0 ∷ get_or row (base j + 2) 0 ∷ get_or row (base j + 3) 0 ∷ get_or row (base j + 4) 0 ∷ []))
    (shut (get_or row (base j) 0 - most_nodes))

-- its first n parts; the last of them is run first
unfoldable pub parts_in : List ℕ → ℕ → Position
parts_in row zero = []
parts_in row (suc n) = item_in row n ∷ parts_in row n

-- its first number says how many there are
abbrev pub position_in : List ℕ → Position
position_in row = parts_in row (get_or row 0 0)

-- part j has no meanings where it is a closing
abbrev pub PartFits : List ℕ → ℕ → Type 0
PartFits row j = most_nodes ≤ get_or row (base j) 0 → (k : ℕ) → k < most_names → get_or row (base j + 1 + k) 0 ≡ 0

-- 0 behind the parts
abbrev pub ZerosFrom : List ℕ → ℕ → Type 0
ZerosFrom row n = (m : ℕ) → n ≤ m → m < row_width → get_or row m 0 ≡ 0

-- A row is that of a position where it has at most 16 parts, and writing them down anew gives the row again: 0 behind the parts, and no
-- meanings in a closing.
unfoldable pub row_ok : List ℕ → Bool
row_ok row = leb (get_or row 0 0) most_parts && same_meanings (row_of (position_in row)) row

-- the first n rows of a table
unfoldable pub rows_ok_lem : List ℕ → ℕ → Bool
rows_ok_lem t zero = true
rows_ok_lem t (suc n) = row_ok (row_in t n) && rows_ok_lem t n

unfoldable pub positions_in : List ℕ → ℕ → List Position
positions_in t n = from (λ i. position_in (row_in t i)) 0 n
