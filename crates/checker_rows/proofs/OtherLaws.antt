-- What is left of a match: the forms that no arm of it names.
use Prim.Native.Nat.{ℕ}
use mathlib.Core.Path.{◌≡◌, refl}
use mathlib.Core.Bool.{Bool}
use mathlib.Core.List.{List}
use Rattle.outline_nodes.specs.declared.NodeForm.{NodeForm}
use Rattle.outline_nodes.specs.declared.NodeForm.TheVariants.{End, OnStatic, OnName, Sequence, Choice}
use Rattle.outline_nodes.specs.declared.NodeForm.TheVariants.{Loop, Back, Fresh, Sandbox}
use Rattle.outline_nodes.specs.Said.{said_by}
use Rattle.checker_account.specs.RowTable.{EventTables, node_rows}

-- they have no event
pub no_rows : (tables : EventTables) (pair : Bool) (p k : ℕ) (r : List ℕ) (f : NodeForm) → ((a s : ℕ) → f ≡ OnStatic a s → ⊥)
    → ((a n : ℕ) → f ≡ OnName a n → ⊥) → ((n b : ℕ) → f ≡ Fresh n b → ⊥) → r ≡ node_rows tables pair p k (said_by f) r
unfolding node_rows
no_rows tables pair p k r End h g e = refl
no_rows tables pair p k r (OnStatic a s) h g e = absurd (h a s refl)
no_rows tables pair p k r (OnName a n) h g e = absurd (g a n refl)
no_rows tables pair p k r (Sequence a b) h g e = refl
no_rows tables pair p k r (Choice a b) h g e = refl
no_rows tables pair p k r (Loop a) h g e = refl
no_rows tables pair p k r (Back a) h g e = refl
no_rows tables pair p k r (Fresh n b) h g e = absurd (e n b refl)
no_rows tables pair p k r (Sandbox s b) h g e = refl
