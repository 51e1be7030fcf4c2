-- The table of rows, for all inputs at all.
use Rattle.std.specs.Prelude.{ℕ, ◌/◌, Bool, true, false, ◌&&◌, List, ltb, leb, length, replicate}
use Rattle.usage.specs.Limits.{policies, most_nodes, node_fields}
use Rattle.checker_account.specs.Tables.{places}
use Rattle.checker_account.specs.Filling.{forms_in}
use Rattle.checker_account.specs.RowTable.{EventTables, fill_rows}

-- the table of rows is one of zeros where there is no such policy or no room for the nodes
abbrev pub whole_if : Bool → List ℕ → List ℕ
whole_if true r = r
whole_if false r = replicate places 0

unfoldable pub row_table : EventTables → Bool → ℕ → List ℕ → List ℕ
row_table tables pair p nodes =
    whole_if (ltb p policies && leb (length nodes / node_fields) most_nodes)
    (fill_rows tables pair p (length nodes / node_fields) (forms_in nodes) (replicate places 0))
