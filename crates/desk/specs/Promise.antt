-- What the desk promises.
use Rattle.std.specs.Prelude.{ℕ, ◌≡◌, Bool, true, false, List, [], ◌∷◌, map, ◌⊎◌, ◌↔◌}
use Rattle.std.proofs.Math.Option.{Option, none, some}
use Rattle.usage.specs.declared.Edge.{Edge}
use Rattle.usage.specs.declared.Node.{Node}
use Rattle.usage.specs.declared.RawStep.{RawStep}
use Rattle.usage.specs.Past.{Step, Past}
use Rattle.usage.specs.Answers.{Verdict}
use Rattle.usage.specs.Judge.{step_of, Judged, past_after, halted_after}
use Rattle.usage.specs.Retirings.{thinned}
use Rattle.usage.specs.Outline.{IsTrace}
use Rattle.usage.specs.Tables.{edges_of, nodes_of}
use Rattle.usage.specs.declared.Reason.{Reason}
use Rattle.monitor_state.specs.declared.Answer.{Answer}
use Rattle.monitor_state.specs.declared.Answer.TheVariants.{Allowed, Violated, Refused}
use Rattle.monitor_state.specs.Judge.{verdict_of, start_state, answers_of}
use Rattle.desk_positions.specs.Positions.{Exceeds}
use Rattle.desk.specs.Desk.{Outlined, Loaded, Desk, Reply, replies_of, Reached, has_policies, has_outline, LoadsPolicies}
use Rattle.desk.specs.Desk.{LoadsOutline}

-- ── Limits over the steps since the load, retirings aside ──

-- after some beginning of these steps a limit is exceeded; after none of them
abbrev pub Exceeded : List Node → Past → Type 0
Exceeded ns [] = Exceeds ns []
Exceeded ns (s ∷ past) = Exceeds ns (s ∷ past) ⊎ Exceeded ns past

abbrev pub NeverExceeded : List Node → Past → Type 0
NeverExceeded ns [] = Exceeds ns [] → ⊥
NeverExceeded ns (s ∷ past) = (Exceeds ns (s ∷ past) → ⊥) × NeverExceeded ns past

-- ── Which judge ──

-- "the lean one exactly where an outline is loaded, the steps since, this one included, refused ones and retirings aside, are a trace of it,
-- and from that load on nothing was exceeded before this step"
abbrev pub Lean : Option (List Node) → Past → Step → Type 0
Lean none past step = ⊥
Lean (some ns) past step = IsTrace ns (thinned (step ∷ past)) × NeverExceeded ns (thinned past)

abbrev pub is_refusal_lem : Answer Reason → Bool
is_refusal_lem Allowed = false
is_refusal_lem (Violated p) = false
is_refusal_lem (Refused n) = true

-- "An answer to a step, if no refusal, tells which judge gave it"
abbrev pub TellsWhich : Option (List Node) → Past → RawStep → Reply → Type 0
TellsWhich o past raw r =
    is_refusal_lem r.answer ≡ false → (step : Step) → step_of raw ≡ some step → (r.lean ≡ true) ↔ Lean o past step

-- The right replies to a list of steps, over the past since the load alone: each answer is the one that the past says, and which judge gave
-- it is told.
pub data Replies (local : Bool) (es : List Edge) (o : Option (List Node)) : Past → Bool → List RawStep → List Reply → Type 0 where
  done : {past : Past} {h : Bool} → Replies local es o past h [] []
  next : {past : Past} {h : Bool} {raw : RawStep} {raws : List RawStep} {r : Reply} {rs : List Reply}
      → Judged local es past h raw (verdict_of r.answer) → TellsWhich o past raw r
      → Replies local es o (past_after past raw (verdict_of r.answer)) (halted_after h (verdict_of r.answer)) raws rs
      → Replies local es o past h (raw ∷ raws) (r ∷ rs)

abbrev pub outline_in : Option Outlined → Option (List Node)
outline_in none = none
outline_in (some u) = some (nodes_of u.nodes)

-- What a desk that was just loaded promises: "its answers to any sequence of steps after a load are those of a full judge started there"
pub record Fresh (d : Loaded) : Type 0 where
  pub answers : (raws : List RawStep) → map (λ (r : Reply). r.answer) (replies_of (some d) raws) ≡ answers_of d.edges d.local start_state raws
  pub replies : (raws : List RawStep) → Replies d.local (edges_of d.edges) (outline_in d.outline) [] false raws (replies_of (some d) raws)

abbrev pub FreshDesk : Desk → Type 0
FreshDesk none = ⊥
FreshDesk (some d) = Fresh d

-- "From the zero state, with only the desk writing it": after a load that was not refused, from any desk that was reached
pub record DeskPromise : Type 0 where
  pub policies : (d d' : Desk) (text : List ℕ) → Reached d → LoadsPolicies d text has_policies d' → FreshDesk d'
  pub outline : (d d' : Desk) (text : List ℕ) (v : Verdict) → Reached d → LoadsOutline text d (has_outline v) d' → FreshDesk d'
