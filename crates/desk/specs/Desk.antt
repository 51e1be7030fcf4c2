-- The desk: what it keeps, and what it answers to a load and to a step.
use Rattle.std.specs.Prelude.{ℕ, ◌≡◌, Bool, true, false, not, ◌&&◌, ltb}
use Rattle.std.proofs.Math.Option.{Option, none, some}
use mathlib.Core.List.{List, [], ◌∷◌, flatten}
use Rattle.usage.specs.declared.Node.{Node}
use Rattle.usage.specs.declared.RawStep.{RawStep}
use Rattle.usage.specs.Limits.{edge_places, node_places}
use Rattle.usage.specs.Past.{Step, event, opening, closing, retiring}
use Rattle.usage.specs.Answers.{Verdict, Refusal}
use Rattle.usage.specs.Judge.{step_of}
use Rattle.usage.specs.Check.{Checked}
use Rattle.usage.specs.Tables.{edges_of, nodes_of}
use Rattle.usage.specs.declared.Reason.{Reason}
use Rattle.sheet_lines.specs.Sheet.{accepted, refused}
use Rattle.sheet_lines.specs.Sheets.{is_local}
use Rattle.sheet_reader.specs.Readers.{policies_into, outline_into}
use Rattle.monitor_state.specs.declared.State.{State}
use Rattle.monitor_state.specs.declared.Answer.{Answer}
use Rattle.usage.specs.declared.Reason.TheVariants.{StepBeforePolicies}
use Rattle.monitor_state.specs.declared.Answer.TheVariants.{Allowed, Violated, Refused}
use Rattle.monitor_state.specs.declared.Judgement.{Judgement}
use Rattle.monitor_state.specs.Judge.{start_state}
use Rattle.monitor_lean.specs.Lean.{Looks, at_all, Summary, marked, judge_by}
use Rattle.checker.specs.Summary.{Exact}
use Rattle.desk_positions.specs.Positions.{Position, stride_all, is_any, start_positions, next_positions}

-- ── What is kept ──

-- an outline: its table of nodes, its exact summary, and the positions of the routine on it; none where a limit was exceeded, and no
-- position at all where the routine has strayed
pub record Outlined : Type 0 where
  pub nodes : List ℕ
  pub summary : Summary
  pub positions : Option (List Position)

-- policies: their table of edges and which past they see; an outline, if one is loaded; and the judge's state
pub record Loaded : Type 0 where
  pub edges : List ℕ
  pub local : Bool
  pub outline : Option Outlined
  pub judge : State

-- nothing is loaded at first
abbrev pub Desk : Type 0
Desk = Option Loaded

abbrev pub zero_desk : Desk
zero_desk = none

-- ── Loads ──

-- "52 a load while a sandbox is open and the judge is not halted"
abbrev pub is_busy_lem : Desk → Bool
is_busy_lem none = false
is_busy_lem (some d) = ltb 0 d.judge.unclosed.depth && not d.judge.halted

-- the answer to a load: a refusal with its line, policies that are loaded, or an outline that is, with the check's verdict
pub data LoadAnswer : Type 0 where
  is_refused_with : Refusal → LoadAnswer
  has_policies : LoadAnswer
  has_outline : Verdict → LoadAnswer

-- the desk's own numbers have line 0
abbrev pub by_number : ℕ → LoadAnswer
by_number n = is_refused_with record { line = 0; number = n }

-- "A load starts the judge afresh; loading policies also drops the outline."
abbrev pub with_policies : List ℕ → Bool → Desk
with_policies edges local = some record { edges = edges; local = local; outline = none; judge = start_state }

abbrev pub with_outline : Loaded → List ℕ → Summary → Desk
with_outline d nodes m = some record {
  edges = d.edges;
  local = d.local;
  outline = some record { nodes = nodes; summary = m; positions = start_positions (nodes_of nodes) };
  judge = start_state;
}

-- "in this order, after 40 to 42 and ahead of 5": 52, then the sheet's own refusals, which store nothing
pub data LoadsPolicies (d : Desk) (text : List ℕ) : LoadAnswer → Desk → Type 0 where
  busy : is_busy_lem d ≡ true → LoadsPolicies d text (by_number 52) d
  no_sheet : {r : Refusal} → is_busy_lem d ≡ false → policies_into edge_places text ≡ refused r → LoadsPolicies d text (is_refused_with r) d
  loads : {rows : List (List ℕ)} → is_busy_lem d ≡ false → policies_into edge_places text ≡ accepted rows
      → LoadsPolicies d text has_policies (with_policies (flatten rows) (is_local text))

-- 51, 52, then the sheet's; "answers an outline, kept either way, with the check's verdict"
pub data LoadsOutline (text : List ℕ) : Desk → LoadAnswer → Desk → Type 0 where
  no_policies : LoadsOutline text none (by_number 51) none
  busy : {d : Loaded} → is_busy_lem (some d) ≡ true → LoadsOutline text (some d) (by_number 52) (some d)
  no_sheet : {d : Loaded} {r : Refusal} → is_busy_lem (some d) ≡ false → outline_into node_places text ≡ refused r
      → LoadsOutline text (some d) (is_refused_with r) (some d)
  loads : {d : Loaded} {rows : List (List ℕ)} {v : Verdict} {m : Summary} → is_busy_lem (some d) ≡ false
      → outline_into node_places text ≡ accepted rows
      → Checked d.local (edges_of d.edges) (nodes_of (flatten rows)) v
      → Exact d.local (edges_of d.edges) (nodes_of (flatten rows)) m
      → LoadsOutline text (some d) (has_outline v) (with_outline d (flatten rows) m)

-- ── A step ──

-- at a retiring the first, at any other step the second
abbrev pub at_retiring : {A : Type 0} → Step → A → A → A
at_retiring (event a r) x y = y
at_retiring (opening p) x y = y
at_retiring (closing p) x y = y
at_retiring (retiring r) x y = x

-- Whether the step can be one of the outline's, from the positions so far; where a limit was exceeded, this is not told any more. A retiring is
-- none, and leaves the outline nowhere: the routine is on it exactly where it was before.
abbrev pub on_positions : List Node → Option (List Position) → Option Step → Bool
on_positions ns none o = false
on_positions ns (some l) none = false
on_positions ns (some l) (some step) = at_retiring step (is_any l) (is_any (stride_all ns step l))

unfoldable pub stays_on : Option Outlined → Option Step → Bool
stays_on none o = false
stays_on (some u) o = on_positions (nodes_of u.nodes) u.positions o

-- "hands each step to the lean judge while the routine stays on the outline, from the first stray step on to the full judge"
abbrev pub looks_by : Bool → Option Outlined → Looks
looks_by lean none = at_all
looks_by false (some u) = at_all
looks_by true (some u) = marked u.summary

-- where an allowed step leads; "retirings move no position"
abbrev pub positions_after : List Node → Option (List Position) → Option Step → Option (List Position)
positions_after ns none o = none
positions_after ns (some l) none = some l
positions_after ns (some l) (some step) = at_retiring step (some l) (next_positions ns step l)

abbrev pub outline_after : Option Outlined → Option Step → Option Outlined
outline_after none o = none
outline_after (some u) o =
    some record { nodes = u.nodes; summary = u.summary; positions = positions_after (nodes_of u.nodes) u.positions o }

-- "Refused steps .. move no position"; after a violated one every step is refused
abbrev pub outline_for : Answer Reason → Option Outlined → Option Step → Option Outlined
outline_for Allowed u o = outline_after u o
outline_for (Violated p) u o = u
outline_for (Refused n) u o = u

-- the answer to a step, which judge gave it, and the desk after it
pub record Reply : Type 0 where
  pub answer : Answer Reason
  pub lean : Bool
  pub desk : Desk

abbrev pub reply_with : Loaded → Option Step → Bool → Judgement → Reply
reply_with d o lean j = record {
  answer = j.answer;
  lean = lean;
  desk = some record { edges = d.edges; local = d.local; outline = outline_for j.answer d.outline o; judge = j.state };
}

unfoldable pub step_loaded : Loaded → RawStep → Reply
step_loaded d raw =
    reply_with d (step_of raw) (stays_on d.outline (step_of raw))
    (judge_by (looks_by (stays_on d.outline (step_of raw)) d.outline) d.edges d.local d.judge raw)

-- "50 a step before policies are loaded"
abbrev pub step_desk : Desk → RawStep → Reply
step_desk none raw = record { answer = Refused StepBeforePolicies; lean = false; desk = none }
step_desk (some d) raw = step_loaded d raw

-- a list of steps, each with the desk that the last one left
unfoldable pub replies_of : Desk → List RawStep → List Reply
replies_of d [] = []
replies_of d (raw ∷ raws) = step_desk d raw ∷ replies_of (step_desk d raw).desk raws

-- ── What the desk comes to ──

-- "From the zero state, with only the desk writing it"
pub data Reached : Desk → Type 0 where
  zero : Reached zero_desk
  by_policies : {d d' : Desk} {text : List ℕ} {a : LoadAnswer} → Reached d → LoadsPolicies d text a d' → Reached d'
  by_outline : {d d' : Desk} {text : List ℕ} {a : LoadAnswer} → Reached d → LoadsOutline text d a d' → Reached d'
  by_step : {d : Desk} (raw : RawStep) → Reached d → Reached (step_desk d raw).desk
