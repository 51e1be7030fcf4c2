-- The forms that the writer names none of.
use Prim.Native.Nat.{ℕ, ◌≤◌}
use mathlib.Core.List.{List}
use mathlib.Core.Path.{◌≡◌, refl}
use native.Mathlib.Omega.{arith}
use Rattle.usage.specs.Limits.{most_shown}
use Rattle.outline_nodes.specs.declared.NodeForm.{NodeForm}
use Rattle.outline_nodes.specs.declared.NodeForm.TheVariants.{End, OnStatic, OnName, Sequence, Choice}
use Rattle.outline_nodes.specs.declared.NodeForm.TheVariants.{Loop, Back, Fresh, Sandbox}
use Rattle.outline_nodes.specs.Said.{said_by}
use Rattle.checker_lengths.specs.declared.Entry.{Entry}
use Rattle.checker_lengths.specs.declared.WatchOne.{WatchOne}
use Rattle.checker_trace.specs.Code.{Chosen}
use Rattle.checker_trace.proofs.PartLaws.{chosen-end, chosen-choice, chosen-loop, chosen-back}

-- they give no step from entries of fewer steps
module _ (w : WatchOne) (rows nodes t : List ℕ) (e : Entry) (n r : ℕ) (few : n ≤ most_shown) (one : 1 ≤ n) where
  pub chosen-other : (f : NodeForm) → ((a s : ℕ) → f ≡ OnStatic a s → ⊥) → ((a i : ℕ) → f ≡ OnName a i → ⊥)
      → ((a b : ℕ) → f ≡ Sequence a b → ⊥) → ((i b : ℕ) → f ≡ Fresh i b → ⊥) → ((s b : ℕ) → f ≡ Sandbox s b → ⊥)
      → Chosen w rows nodes t e n (said_by f) r → ⊥
  chosen-other End h1 h2 h3 h7 h8 ch = let z = chosen-end w rows nodes t e n r few ch in omega arith
  chosen-other (OnStatic a s) h1 h2 h3 h7 h8 ch = h1 a s refl
  chosen-other (OnName a i) h1 h2 h3 h7 h8 ch = h2 a i refl
  chosen-other (Sequence a b) h1 h2 h3 h7 h8 ch = h3 a b refl
  chosen-other (Choice a b) h1 h2 h3 h7 h8 ch = chosen-choice w rows nodes t e n r few a b ch
  chosen-other (Loop a) h1 h2 h3 h7 h8 ch = chosen-loop w rows nodes t e n r few a ch
  chosen-other (Back a) h1 h2 h3 h7 h8 ch = chosen-back w rows nodes t e n r few a ch
  chosen-other (Fresh i b) h1 h2 h3 h7 h8 ch = h7 i b refl
  chosen-other (Sandbox s b) h1 h2 h3 h7 h8 ch = h8 s b refl
