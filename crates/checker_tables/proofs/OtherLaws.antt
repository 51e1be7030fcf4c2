-- What is left of a match: the forms that no arm of it names.
use Prim.Native.Nat.{ℕ}
use mathlib.Core.Path.{◌≡◌, refl}
use mathlib.Core.Bool.{Bool, true, false}
use mathlib.Core.List.{List, []}
use Rattle.outline_nodes.specs.declared.NodeForm.{NodeForm}
use Rattle.outline_nodes.specs.declared.NodeForm.TheVariants.{End, OnStatic, OnName, Sequence, Choice}
use Rattle.outline_nodes.specs.declared.NodeForm.TheVariants.{Loop, Back, Fresh, Sandbox}
use Rattle.outline_nodes.specs.Said.{said_by}
use Rattle.checker_account.specs.declared.Resources.{Resources}
use Rattle.checker_account.specs.Tables.{Rows, arrivals, leaves}
use Rattle.checker_account.specs.Filling.{arrivals_of, leaves_of}
use Rattle.checker_tables.specs.Search.{is_on_lem, small}
use Rattle.checker_tables.specs.Work.{noted}
use Rattle.checker_tables.specs.Marks.{last_in, mark_bit_lem}

-- they are no event on a static resource
pub not_on : (x : ℕ) (f : NodeForm) → ((a s : ℕ) → f ≡ OnStatic a s → ⊥) → false ≡ is_on_lem x (said_by f)
not_on x End h1 = refl
not_on x (OnStatic a s) h1 = absurd (h1 a s refl)
not_on x (OnName a n) h1 = refl
not_on x (Sequence a b) h1 = refl
not_on x (Choice a b) h1 = refl
not_on x (Loop a) h1 = refl
not_on x (Back a) h1 = refl
not_on x (Fresh n b) h1 = refl
not_on x (Sandbox s b) h1 = refl

-- they have no number
pub no_number : (f : NodeForm) → ((a s : ℕ) → f ≡ OnStatic a s → ⊥) → ((a n : ℕ) → f ≡ OnName a n → ⊥) → ((a b : ℕ) → f ≡ Sequence a b → ⊥) → ((a b : ℕ) → f ≡ Choice a b → ⊥) → ((a : ℕ) → f ≡ Loop a → ⊥) → ((a : ℕ) → f ≡ Back a → ⊥) → ((n b : ℕ) → f ≡ Fresh n b → ⊥) → ((s b : ℕ) → f ≡ Sandbox s b → ⊥) → true ≡ small (said_by f)
unfolding small
no_number End h1 h2 h3 h4 h5 h6 h7 h8 = refl
no_number (OnStatic a s) h1 h2 h3 h4 h5 h6 h7 h8 = absurd (h1 a s refl)
no_number (OnName a n) h1 h2 h3 h4 h5 h6 h7 h8 = absurd (h2 a n refl)
no_number (Sequence a b) h1 h2 h3 h4 h5 h6 h7 h8 = absurd (h3 a b refl)
no_number (Choice a b) h1 h2 h3 h4 h5 h6 h7 h8 = absurd (h4 a b refl)
no_number (Loop a) h1 h2 h3 h4 h5 h6 h7 h8 = absurd (h5 a refl)
no_number (Back a) h1 h2 h3 h4 h5 h6 h7 h8 = absurd (h6 a refl)
no_number (Fresh n b) h1 h2 h3 h4 h5 h6 h7 h8 = absurd (h7 n b refl)
no_number (Sandbox s b) h1 h2 h3 h4 h5 h6 h7 h8 = absurd (h8 s b refl)

-- they take no step
pub no_step : (local : Bool) (rows : Rows) (p : ℕ) (x : Resources) (u : List ℕ) (k m : ℕ) (f : NodeForm)
    → ((a s : ℕ) → f ≡ OnStatic a s → ⊥) → ((a n : ℕ) → f ≡ OnName a n → ⊥) → ((n b : ℕ) → f ≡ Fresh n b → ⊥) → ((s b : ℕ) → f ≡ Sandbox s b → ⊥) → 0 ≡ leaves_of local rows p x u k m (said_by f)
unfolding leaves
no_step local rows p x u k m End h1 h2 h7 h8 = refl
no_step local rows p x u k m (OnStatic a s) h1 h2 h7 h8 = absurd (h1 a s refl)
no_step local rows p x u k m (OnName a n) h1 h2 h7 h8 = absurd (h2 a n refl)
no_step local rows p x u k m (Sequence a b) h1 h2 h7 h8 = refl
no_step local rows p x u k m (Choice a b) h1 h2 h7 h8 = refl
no_step local rows p x u k m (Loop a) h1 h2 h7 h8 = refl
no_step local rows p x u k m (Back a) h1 h2 h7 h8 = refl
no_step local rows p x u k m (Fresh n b) h1 h2 h7 h8 = absurd (h7 n b refl)
no_step local rows p x u k m (Sandbox s b) h1 h2 h7 h8 = absurd (h8 s b refl)

-- so that they have no mark
pub no-mark : (f : NodeForm) → ((a s : ℕ) → f ≡ OnStatic a s → ⊥) → ((a n : ℕ) → f ≡ OnName a n → ⊥) → ((n b : ℕ) → f ≡ Fresh n b → ⊥) → ((s b : ℕ) → f ≡ Sandbox s b → ⊥) → 0 ≡ mark_bit_lem (last_in (said_by f))
no-mark End h1 h2 h7 h8 = refl
no-mark (OnStatic a s) h1 h2 h7 h8 = absurd (h1 a s refl)
no-mark (OnName a n) h1 h2 h7 h8 = absurd (h2 a n refl)
no-mark (Sequence a b) h1 h2 h7 h8 = refl
no-mark (Choice a b) h1 h2 h7 h8 = refl
no-mark (Loop a) h1 h2 h7 h8 = refl
no-mark (Back a) h1 h2 h7 h8 = refl
no-mark (Fresh n b) h1 h2 h7 h8 = absurd (h7 n b refl)
no-mark (Sandbox s b) h1 h2 h7 h8 = absurd (h8 s b refl)

-- they lead to nothing
pub no-arrivals : (local : Bool) (rows : Rows) (p : ℕ) (x : Resources) (t : List ℕ) (k : ℕ) (o : Bool) (m v : ℕ) (f : NodeForm)
    → ((a b : ℕ) → f ≡ Sequence a b → ⊥) → ((a b : ℕ) → f ≡ Choice a b → ⊥) → ((a : ℕ) → f ≡ Loop a → ⊥) → ((a : ℕ) → f ≡ Back a → ⊥) → ((n b : ℕ) → f ≡ Fresh n b → ⊥) → ((s b : ℕ) → f ≡ Sandbox s b → ⊥) → arrivals_of local rows p x t k o m v (said_by f) ≡ []
unfolding arrivals
no-arrivals local rows p x t k o m v End h3 h4 h5 h6 h7 h8 = refl
no-arrivals local rows p x t k o m v (OnStatic a s) h3 h4 h5 h6 h7 h8 = refl
no-arrivals local rows p x t k o m v (OnName a n) h3 h4 h5 h6 h7 h8 = refl
no-arrivals local rows p x t k o m v (Sequence a b) h3 h4 h5 h6 h7 h8 = absurd (h3 a b refl)
no-arrivals local rows p x t k o m v (Choice a b) h3 h4 h5 h6 h7 h8 = absurd (h4 a b refl)
no-arrivals local rows p x t k o m v (Loop a) h3 h4 h5 h6 h7 h8 = absurd (h5 a refl)
no-arrivals local rows p x t k o m v (Back a) h3 h4 h5 h6 h7 h8 = absurd (h6 a refl)
no-arrivals local rows p x t k o m v (Fresh n b) h3 h4 h5 h6 h7 h8 = absurd (h7 n b refl)
no-arrivals local rows p x t k o m v (Sandbox s b) h3 h4 h5 h6 h7 h8 = absurd (h8 s b refl)

-- they read no other node
pub no-noted : (k : ℕ) (u : List ℕ) (f : NodeForm) → ((a b : ℕ) → f ≡ Sequence a b → ⊥) → ((a b : ℕ) → f ≡ Choice a b → ⊥) → ((a : ℕ) → f ≡ Loop a → ⊥) → ((a : ℕ) → f ≡ Back a → ⊥) → ((n b : ℕ) → f ≡ Fresh n b → ⊥) → ((s b : ℕ) → f ≡ Sandbox s b → ⊥) → u ≡ noted k (said_by f) u
unfolding noted
no-noted k u End h3 h4 h5 h6 h7 h8 = refl
no-noted k u (OnStatic a s) h3 h4 h5 h6 h7 h8 = refl
no-noted k u (OnName a n) h3 h4 h5 h6 h7 h8 = refl
no-noted k u (Sequence a b) h3 h4 h5 h6 h7 h8 = absurd (h3 a b refl)
no-noted k u (Choice a b) h3 h4 h5 h6 h7 h8 = absurd (h4 a b refl)
no-noted k u (Loop a) h3 h4 h5 h6 h7 h8 = absurd (h5 a refl)
no-noted k u (Back a) h3 h4 h5 h6 h7 h8 = absurd (h6 a refl)
no-noted k u (Fresh n b) h3 h4 h5 h6 h7 h8 = absurd (h7 n b refl)
no-noted k u (Sandbox s b) h3 h4 h5 h6 h7 h8 = absurd (h8 s b refl)
