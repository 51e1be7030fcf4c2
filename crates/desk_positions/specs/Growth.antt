-- A table of rows that holds a list of positions, while positions are added to it.
use Rattle.std.specs.Prelude.{ℕ, zero, suc, ◌<◌, ◌≤◌, ◌≡◌, false, ◌⊎◌, length}
use mathlib.Core.List.{List, ◌∷◌, map, Memᴰ}
use Rattle.std.proofs.Math.Option.{Option, none, some}
use Rattle.usage.specs.Limits.{most_nodes, most_names}
use Rattle.usage.specs.Outline.{Form, end, static_event, named_event, sequence, choice, loop, back, fresh, sandbox}
use Rattle.usage.specs.Past.{Step, event, opening, closing, retiring}
use Rattle.desk_positions.specs.Closure.{in_limits}
use Rattle.desk_positions.specs.Positions.{most_positions, most_parts, Meanings, at, Position, short}
use Rattle.desk_positions.specs.Rows.{table_bytes, row_of, rows_in, AllCoded}

-- a position that has a row
abbrev pub Fine : Position → Type 0
Fine c = (length c ≤ most_parts) × AllCoded c

-- the first n rows are those of these positions
pub record Tabled (l : List Position) (n : ℕ) (t : List ℕ) : Type 0 where
  pub few : length l ≤ most_positions
  pub fine : (c : Position) → Memᴰ c l → Fine c
  pub number : n ≡ length l
  pub rows : rows_in t n ≡ map row_of l

-- they are, or the list is beyond the limits, which the number 65 tells
pub data Grown (l : List Position) : ℕ → List ℕ → Type 0 where
  inside : {n : ℕ} {t : List ℕ} → Tabled l n t → Grown l n t
  beyond : {t : List ℕ} → in_limits most_positions short l ≡ false → Grown l (suc most_positions) t

-- the row is that of a position with node k on top, l being what the names mean there, and d parts below it
pub record OnTop (row : List ℕ) (d k : ℕ) (l : Meanings) (rest : Position) : Type 0 where
  pub is : row ≡ row_of (at k l ∷ rest)
  pub depth : length rest ≡ d
  pub fine : Fine (at k l ∷ rest)

-- what is told of a list that is closed under a rule, or beyond the limits
abbrev pub Settles : Option (List Position) → ℕ → List ℕ → Type 0
Settles none m t = m ≡ suc most_positions
Settles (some l) m t = Tabled l m t

-- What holds of every table and number of rows that are told, whatever was lent: the table keeps its size, and the number is at most 65.
abbrev pub RowsCounted : ℕ → List ℕ → Type 0
RowsCounted m t = (length t ≡ table_bytes) × (m ≤ suc most_positions)

-- what is lent is no table, or has not so many rows
abbrev pub NoTable : ℕ → List ℕ → Type 0
NoTable n t = (length t ≡ table_bytes → ⊥) ⊎ (most_positions < n)

-- 65 is told then, and nothing is written
abbrev pub NothingWritten : ℕ → List ℕ → List ℕ → Type 0
NothingWritten m t₀ t = (m ≡ suc most_positions) × (t ≡ t₀)

-- the step of a kind and two numbers: 0 an event, 1 an opening, 2 a closing, else a retiring
abbrev pub step_from : ℕ → ℕ → ℕ → Step
step_from zero a b = event a b
step_from (suc zero) a b = opening a
step_from (suc (suc zero)) a b = closing a
step_from (suc (suc (suc k))) a b = retiring a

-- the nodes and names that a form has are some that a row can hold
abbrev pub Within : Option Form → Type 0
Within none = Unit {0}
Within (some end) = Unit {0}
Within (some (static_event a s)) = Unit {0}
Within (some (named_event a n)) = n < most_names
Within (some (sequence a b)) = (a < most_nodes) × (b < most_nodes)
Within (some (choice a b)) = (a < most_nodes) × (b < most_nodes)
Within (some (loop a)) = a < most_nodes
Within (some (back a)) = a < most_nodes
Within (some (fresh n b)) = (n < most_names) × (b < most_nodes)
Within (some (sandbox p b)) = b < most_nodes
