-- What a tree means by its own runs, with no number and no table. The moves are those of document 01 ("Outlines"), where a part is a tree
-- in the place of a node.
use Rattle.std.specs.Prelude.{ℕ, ◌≤◌, ◌≡◌, List, [], ◌∷◌}
use Rattle.std.proofs.Math.Option.{some}
use Rattle.usage.specs.Limits.{statics, create}
use Rattle.usage.specs.Past.{event, opening, closing, Past, Occurs}
use Rattle.usage.specs.Outline.{Names, no_names, give}
use Rattle.sheet_grammar.specs.Tree.{Tree, end, static_event, named_event, sequence, choice, loop, back, fresh, sandbox}

-- The loops around a part of a tree, the innermost first.
pub record LabelledLoop : Type 0 where
  pub label : ℕ
  pub body : Tree

-- "`h` means the innermost loop of its label": its body, and the loops around it
pub data MeansLoop (l : ℕ) : List LabelledLoop → Tree → List LabelledLoop → Type 0 where
  innermost : {t : Tree} {outer : List LabelledLoop} → MeansLoop l (record { label = l; body = t } ∷ outer) t outer
  further : {m : ℕ} {t u : Tree} {outer rest : List LabelledLoop} → (l ≡ m → ⊥) → MeansLoop l outer t rest
      → MeansLoop l (record { label = m; body = u } ∷ outer) t rest

-- "A part is a node with what each name means, or a closing": a tree for a node, with the loops around it
pub data TreePart : Type 0 where
  tree : Tree → Names → List LabelledLoop → TreePart
  close : ℕ → TreePart

pub record TreeRun : Type 0 where
  pub past : Past
  pub parts : List TreePart

-- One move, with document 01's words for it.
pub data TreeAdvance : TreeRun → TreeRun → Type 0 where
  -- "End: nothing."
  ends : {names : Names} {around : List LabelledLoop} {past : Past} {rest : List TreePart}
      → TreeAdvance (record { past = past; parts = tree end names around ∷ rest }) (record { past = past; parts = rest })
  -- "Event: adds its step, on static b or on what name b means."
  fires_static : {a s : ℕ} {names : Names} {around : List LabelledLoop} {past : Past} {rest : List TreePart}
      → TreeAdvance (record { past = past; parts = tree (static_event a s) names around ∷ rest })
      (record { past = event a s ∷ past; parts = rest })
  fires_name : {a n r : ℕ} {names : Names} {around : List LabelledLoop} {past : Past} {rest : List TreePart} → names n ≡ some r
      → TreeAdvance (record { past = past; parts = tree (named_event a n) names around ∷ rest })
      (record { past = event a r ∷ past; parts = rest })
  -- "node a, then node b"
  sequences : {t u : Tree} {names : Names} {around : List LabelledLoop} {past : Past} {rest : List TreePart}
      → TreeAdvance (record { past = past; parts = tree (sequence t u) names around ∷ rest })
      (record { past = past; parts = tree t names around ∷ tree u names around ∷ rest })
  -- "one of the two"
  chooses_left : {t u : Tree} {names : Names} {around : List LabelledLoop} {past : Past} {rest : List TreePart}
      → TreeAdvance (record { past = past; parts = tree (choice t u) names around ∷ rest })
      (record { past = past; parts = tree t names around ∷ rest })
  chooses_right : {t u : Tree} {names : Names} {around : List LabelledLoop} {past : Past} {rest : List TreePart}
      → TreeAdvance (record { past = past; parts = tree (choice t u) names around ∷ rest })
      (record { past = past; parts = tree u names around ∷ rest })
  -- the body, with the loop around it
  enters : {l : ℕ} {t : Tree} {names : Names} {around : List LabelledLoop} {past : Past} {rest : List TreePart}
      → TreeAdvance (record { past = past; parts = tree (loop l t) names around ∷ rest })
      (record { past = past; parts = tree t names (record { label = l; body = t } ∷ around) ∷ rest })
  -- "run loop node a afresh here, then go on": the loop that its label means, with the loops around that one
  repeats : {l : ℕ} {t : Tree} {names : Names} {around outer : List LabelledLoop} {past : Past} {rest : List TreePart}
      → MeansLoop l around t outer
      → TreeAdvance (record { past = past; parts = tree (back l) names around ∷ rest })
      (record { past = past; parts = tree (loop l t) names outer ∷ rest })
  -- "picks any dynamic resource that is in no step so far and adds create on it; node b, with name a now meaning it"
  creates : {n r : ℕ} {t : Tree} {names : Names} {around : List LabelledLoop} {past : Past} {rest : List TreePart} → statics ≤ r
      → (Occurs r past → ⊥)
      → TreeAdvance (record { past = past; parts = tree (fresh n t) names around ∷ rest })
      (record { past = event create r ∷ past; parts = tree t (give names n r) around ∷ rest })
  -- "adds the opening of policy a; node b, then a closing of policy a"
  opens : {p : ℕ} {t : Tree} {names : Names} {around : List LabelledLoop} {past : Past} {rest : List TreePart}
      → TreeAdvance (record { past = past; parts = tree (sandbox p t) names around ∷ rest })
      (record { past = opening p ∷ past; parts = tree t names around ∷ close p ∷ rest })
  -- "A closing: adds it."
  closes : {p : ℕ} {past : Past} {rest : List TreePart}
      → TreeAdvance (record { past = past; parts = close p ∷ rest }) (record { past = closing p ∷ past; parts = rest })

-- what any finite number of moves leads to, zero included: "At first there is no step and one part", with no name given and no loop around
pub data TreeRuns (t : Tree) : TreeRun → Type 0 where
  started : TreeRuns t (record { past = []; parts = tree t no_names [] ∷ [] })
  moved : {r r' : TreeRun} → TreeRuns t r → TreeAdvance r r' → TreeRuns t r'

-- "The steps after any finite number of moves, zero included, are a trace."
abbrev pub TreeTrace : Tree → Past → Type 0
TreeTrace t past = (parts : List TreePart) × TreeRuns t (record { past = past; parts = parts })
