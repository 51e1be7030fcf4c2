-- Where a step leads, by its kind and by what is on top.
use Prim.Native.Nat.{ℕ, ◌+◌, ◌<◌, ◌≤◌}
use mathlib.Core.Path.{◌≡◌, refl, sym, ap, ◌∙◌, subst}
use mathlib.Core.Option.{Option, none, some}
use mathlib.Core.List.{List, [], ◌∷◌}
use lib.ListN.{length, get_or}
use borrow.Author.Tests.{eq-eqb, ne_eqb}
use Rattle.usage.specs.declared.Node.{Node}
use Rattle.usage.specs.Limits.{most_nodes}
use Rattle.usage.specs.Past.{Step, event, opening, closing, retiring}
use Rattle.usage.specs.Outline.{Form, end, static_event, named_event, sequence, choice, loop, back, fresh, sandbox, form_at}
use Rattle.usage.specs.Tables.{nodes_of}
use Rattle.outline_nodes.specs.declared.NodeForm.{NodeForm}
use Rattle.outline_nodes.specs.declared.NodeForm.TheVariants.{End, OnStatic, OnName, Sequence, Choice, Loop, Back, Fresh, Sandbox}
use Rattle.outline_nodes.specs.Said.{said_by}
use Rattle.desk_positions.specs.Closure.{added_all}
use Rattle.desk_positions.specs.Positions.{Meanings, shut, Position, same_position, if, stride_by, stride_next}
use Rattle.desk_positions.specs.Rows.{base, row_of}
use Rattle.desk_positions.specs.Growth.{Fine, Tabled, Grown, OnTop}
use Rattle.desk_positions.proofs.GrowthLaws.{none-grown}
use Rattle.desk_positions.proofs.TopLaws.{empty-is, node-on, closing-on}

-- only a sandbox takes an opening
pub opening-none : (f : NodeForm) (l : Meanings) (rest : Position) (p : ℕ) → ((s b : ℕ) → f ≡ Sandbox s b → ⊥)
    → stride_by (said_by f) l rest (opening p) ≡ []
opening-none End l rest p d = refl
opening-none (OnStatic a s) l rest p d = refl
opening-none (OnName a n) l rest p d = refl
opening-none (Sequence a b) l rest p d = refl
opening-none (Choice a b) l rest p d = refl
opening-none (Loop a) l rest p d = refl
opening-none (Back a) l rest p d = refl
opening-none (Fresh n b) l rest p d = refl
opening-none (Sandbox s b) l rest p d = absurd (d s b refl)

-- no node takes a closing
pub closing-none : (o : Option Form) (l : Meanings) (rest : Position) (p : ℕ) → stride_by o l rest (closing p) ≡ []
closing-none none l rest p = refl
closing-none (some end) l rest p = refl
closing-none (some (static_event a s)) l rest p = refl
closing-none (some (named_event a n)) l rest p = refl
closing-none (some (sequence a b)) l rest p = refl
closing-none (some (choice a b)) l rest p = refl
closing-none (some (loop a)) l rest p = refl
closing-none (some (back a)) l rest p = refl
closing-none (some (fresh n b)) l rest p = refl
closing-none (some (sandbox s b)) l rest p = refl

-- nor a retiring
pub retiring-none : (o : Option Form) (l : Meanings) (rest : Position) (r : ℕ) → stride_by o l rest (retiring r) ≡ []
retiring-none none l rest r = refl
retiring-none (some end) l rest r = refl
retiring-none (some (static_event a s)) l rest r = refl
retiring-none (some (named_event a n)) l rest r = refl
retiring-none (some (sequence a b)) l rest r = refl
retiring-none (some (choice a b)) l rest r = refl
retiring-none (some (loop a)) l rest r = refl
retiring-none (some (back a)) l rest r = refl
retiring-none (some (fresh n b)) l rest r = refl
retiring-none (some (sandbox s b)) l rest r = refl

-- a closing takes a closing of its policy alone
module _ (ns : List Node) (p : ℕ) (rest : Position) where
  pub shut-event : (a r : ℕ) → stride_next ns (event a r) (shut p ∷ rest) ≡ []
  unfolding stride_next
  shut-event a r = refl

  pub shut-opening : (a : ℕ) → stride_next ns (opening a) (shut p ∷ rest) ≡ []
  unfolding stride_next
  shut-opening a = refl

  pub shut-retiring : (a : ℕ) → stride_next ns (retiring a) (shut p ∷ rest) ≡ []
  unfolding stride_next
  shut-retiring a = refl

  pub shut-other : (a : ℕ) → (a ≡ p → ⊥) → stride_next ns (closing a) (shut p ∷ rest) ≡ []
  unfolding stride_next
  shut-other a d = ap (λ t. if t rest) (ne_eqb a p d)

  pub shut-taken : (a : ℕ) → a ≡ p → stride_next ns (closing a) (shut p ∷ rest) ≡ rest ∷ []
  unfolding stride_next
  shut-taken a d = ap (λ t. if t rest) (eq-eqb a p d)

-- ── What the row leads to by a step ──

module _ (t row : List ℕ) (c : Position) (fine : Fine c) (is : row ≡ row_of c) (step : Step) {ls : List Position} {n : ℕ} {u : List ℕ}
    (w : Tabled ls n u) where
  pub empty-strides : get_or row 0 0 ≡ 0 → Grown (added_all same_position ls (stride_next (nodes_of t) step c)) n u
  unfolding stride_next
  empty-strides e = none-grown w (stride_next (nodes_of t) step c) (ap (stride_next (nodes_of t) step) (empty-is row c fine is e))

  pub closing-strides : (d code : ℕ) → get_or row 0 0 ≡ d + 1 → get_or row (base d) 0 ≡ code → most_nodes ≤ code
      → {m : ℕ} {u' : List ℕ}
      → ((p : ℕ) (rest : Position) → row ≡ row_of (shut p ∷ rest) → Fine (shut p ∷ rest) → length rest ≡ d → code ≡ most_nodes + p
      → Grown (added_all same_position ls (stride_next (nodes_of t) step (shut p ∷ rest))) m u')
      → Grown (added_all same_position ls (stride_next (nodes_of t) step c)) m u'
  closing-strides d code e f h {m} {u'} next =
      let o = closing-on row c fine is d code e f h in
      subst (λ (x : Position). Grown (added_all same_position ls (stride_next (nodes_of t) step x)) m u') (sym o.same)
      (next o.policy o.rest (is ∙ ap row_of o.same) (subst Fine o.same fine) o.depth o.number)

  pub past-strides : (d code : ℕ) → get_or row 0 0 ≡ d + 1 → get_or row (base d) 0 ≡ code → code < most_nodes → none ≡ form_at (nodes_of t) code
      → Grown (added_all same_position ls (stride_next (nodes_of t) step c)) n u
  unfolding stride_next
  past-strides d code e f h g =
      let o = node-on row c fine is d code e f h in
      none-grown w (stride_next (nodes_of t) step c)
      (ap (stride_next (nodes_of t) step) o.same ∙ ap (λ (x : Option Form). stride_by x o.meanings o.rest step) (sym g))

  pub node-strides : (d code : ℕ) → get_or row 0 0 ≡ d + 1 → get_or row (base d) 0 ≡ code → code < most_nodes
      → (form : Option Form) → form ≡ form_at (nodes_of t) code → {m : ℕ} {u' : List ℕ}
      → ((l : Meanings) (rest : Position) → OnTop row d code l rest → Grown (added_all same_position ls (stride_by form l rest step)) m u')
      → Grown (added_all same_position ls (stride_next (nodes_of t) step c)) m u'
  unfolding stride_next
  node-strides d code e f h form g {m} {u'} next =
      let o = node-on row c fine is d code e f h in
      subst (λ (x : List Position). Grown (added_all same_position ls x) m u')
      (sym (ap (stride_next (nodes_of t) step) o.same ∙ ap (λ (x : Option Form). stride_by x o.meanings o.rest step) (sym g)))
      (next o.meanings o.rest o.top)
