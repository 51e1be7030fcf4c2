-- The marks of a policy (02, L11), as the tables tell them: the search for a violation, gone through to the end.
use Rattle.std.specs.Prelude.{ℕ, ◌/◌, ◌^◌, ◌<◌, ◌≡◌, Bool, true, false, cond, List, ◌⊎◌, length}
use Rattle.std.proofs.Math.Option.{Option, none, some}
use Rattle.usage.specs.Limits.{actions, node_fields}
use Rattle.usage.specs.Outline.{Form}
use Rattle.automaton.specs.Mask.{union}
use Rattle.usage.specs.Check.{Last, by_action, by_opening}
use Rattle.checker_account.specs.declared.Resources.{Resources}
use Rattle.checker_account.specs.Tables.{Rows, rows_in, last_of}
use Rattle.checker_account.specs.Filling.{Forms, forms_in, hit_node_lem, EndsFilled, Filled, ComesRule, begins, Skips}
use Rattle.checker_account.specs.Choices.{choice_count, choice_at}

-- A last step as a bit: the actions are bits 0 to 31, the opening is bit 32.
abbrev pub bit_of : Last → ℕ
bit_of (by_action a) = a
bit_of by_opening = actions

-- the step of a node as a bit; a node without a step has none
abbrev pub last_in : Option Form → Option Last
last_in none = none
last_in (some f) = last_of f

abbrev pub mark_bit_lem : Option Last → ℕ
mark_bit_lem none = 0
mark_bit_lem (some last) = 2 ^ bit_of last

-- the steps of all nodes that leave an offending state, by the table of what is come to: `hit_any` asks whether there is one
unfoldable pub hit_marks : Bool → Rows → ℕ → Resources → List ℕ → ℕ → Forms → ℕ
hit_marks local rows p x u n forms = union n (λ k. cond (hit_node_lem local rows p x u k (forms k)) (mark_bit_lem (last_in (forms k))) 0)

-- the marks of policy p for the watched resources x
pub record MarkedBy (local : Bool) (rows : Rows) (p : ℕ) (x : Resources) (n : ℕ) (forms : Forms) (marks : ℕ) : Type 0 where
  pub ends : Bool → List ℕ
  pub comes : List ℕ
  pub ends_filled : EndsFilled local rows p x n forms ends
  pub comes_filled : Filled (ComesRule local rows p x ends n forms) (begins x) comes
  pub told : marks ≡ hit_marks local rows p x comes n forms

-- those of a choice: none where a static resource that no event is on is among them
abbrev pub MarkedWith : Bool → Rows → ℕ → Resources → ℕ → Forms → ℕ → Type 0
MarkedWith local rows p x n forms marks = (Skips n forms x × (marks ≡ 0)) ⊎ MarkedBy local rows p x n forms marks

-- the marks of policy p, a pair policy or not: of the choices that are watched in turn, joined
pub record MarkedAll (local : Bool) (rows : Rows) (p : ℕ) (pair : Bool) (n : ℕ) (forms : Forms) (marks : ℕ) : Type 0 where
  pub by : ℕ → ℕ
  pub each : (i : ℕ) → i < choice_count pair → MarkedWith local rows p (choice_at pair i) n forms (by i)
  pub joined : marks ≡ union (choice_count pair) by

-- ── Over the flat tables that the code has ──

abbrev pub marks_in : List ℕ → Bool → List ℕ → List ℕ → ℕ → Resources → ℕ
marks_in nodes local rows u p x = hit_marks local (rows_in rows) p x u (length nodes / node_fields) (forms_in nodes)

-- a policy has no mark where the tables have no room for the nodes
abbrev pub MarkedIf : Bool → List ℕ → Bool → List ℕ → ℕ → Resources → ℕ → Type 0
MarkedIf true nodes local rows p x marks = MarkedBy local (rows_in rows) p x (length nodes / node_fields) (forms_in nodes) marks
MarkedIf false nodes local rows p x marks = marks ≡ 0
