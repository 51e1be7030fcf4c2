-- The laws of the sets that an event moves.
use Prim.Native.Nat.{ℕ}
use mathlib.Core.Path.{◌≡◌}
use mathlib.Core.Bool.{Bool, true, false, cond}
use mathlib.Core.List.{List}
use lib.ListN.{length}
use Rattle.usage.proofs.TableLaws.{length_from}
use Rattle.monitor_sets.specs.Instances.{set_places}
use Rattle.monitor_sets.specs.Sets.{copied}

-- the sets that an event moves: as they are, or with the instance of the created resource
abbrev pub begun : Bool → List ℕ → ℕ → List ℕ
begun b sets at = cond b (copied sets at) sets

pub begun-length : (b : Bool) (sets : List ℕ) (at : ℕ) → length sets ≡ set_places → length (begun b sets at) ≡ set_places
unfolding copied
begun-length true sets at e = length_from _ 0 set_places
begun-length false sets at e = e
