-- Where there is room for it, the table is the one that the search reads.
use Prim.Native.Nat.{ℕ, ◌/◌, ◌<◌, ◌≤◌}
use mathlib.Core.Path.{◌≡◌, ap}
use mathlib.Core.Bool.{Bool, ◌&&◌}
use mathlib.Core.List.{List}
use lib.Dec.{ltb, leb}
use lib.ListN.{length, replicate}
use borrow.Author.Tests.{lt-ltb, le-ltb, le-leb, lt-leb}
use Rattle.usage.specs.Limits.{policies, most_nodes, node_fields}
use Rattle.usage.proofs.Logic.{and_both, and-false}
use Rattle.checker_account.specs.Tables.{places}
use Rattle.checker_account.specs.Filling.{forms_in}
use Rattle.checker_account.specs.RowTable.{EventTables, fill_rows}
use Rattle.checker_rows.specs.Rows.{whole_if, row_table}

module _ (tables : EventTables) (pair : Bool) (p : ℕ) (nodes : List ℕ) where
  abbrev filled : List ℕ
  filled = fill_rows tables pair p (length nodes / node_fields) (forms_in nodes) (replicate places 0)

  pub whole_in : p < policies → length nodes / node_fields ≤ most_nodes → row_table tables pair p nodes ≡ filled
  unfolding row_table
  whole_in h l =
      ap (λ (b : Bool). whole_if b filled)
      (and_both (ltb p policies) (leb (length nodes / node_fields) most_nodes) (lt-ltb p policies h)
      (le-leb (length nodes / node_fields) most_nodes l))

  pub no-policy : policies ≤ p → row_table tables pair p nodes ≡ replicate places 0
  unfolding row_table
  no-policy h = ap (λ (b : Bool). whole_if (b && leb (length nodes / node_fields) most_nodes) filled) (le-ltb p policies h)

  pub no_room : most_nodes < length nodes / node_fields → row_table tables pair p nodes ≡ replicate places 0
  unfolding row_table
  no_room h =
      ap (λ (b : Bool). whole_if b filled)
      (and-false (ltb p policies) (leb (length nodes / node_fields) most_nodes) (lt-leb (length nodes / node_fields) most_nodes h))
