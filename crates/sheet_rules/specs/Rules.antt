-- The rules of a node (refusals 6, 7, 8), by their names in the code.
use Rattle.std.specs.Prelude.{ℕ, Bool, true, not, ◌&&◌, List, eqb, Option as Maybe, Some, None}
use Rattle.usage.specs.declared.Node.{Node}
use Rattle.usage.specs.Tests.{tree_ok_lem, back_ok_lem, name_ok_lem, place_ok}
use Rattle.sheet_rules.specs.declared.Rule.{Rule}
use Rattle.sheet_rules.specs.declared.Rule.TheVariants.{Place, Tree, Back, Name}

-- what a rule asks of a node; `Place` is refusal 6 of a sheet, whose lines hold the numbers `places`, and `Tree` that of a table
abbrev pub passes : Rule → List ℕ → List Node → ℕ → Bool
passes Place places ns k = place_ok places k && tree_ok_lem ns k
passes Tree places ns k = tree_ok_lem ns k
passes Back places ns k = back_ok_lem ns k
passes Name places ns k = name_ok_lem ns k

-- a rule for 6 that one node alone fails, if any does
abbrev pub all_but : Maybe ℕ → ℕ → Bool
all_but None k = true
all_but (Some j) k = not (eqb j k)
