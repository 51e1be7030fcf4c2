-- What the lean judge promises with the exact summary of an outline (02, L11).
use Rattle.std.specs.Prelude.{◌≡◌, Bool, List, [], map, ℕ}
use Rattle.usage.specs.declared.Node.{Node}
use Rattle.usage.specs.declared.RawStep.{RawStep}
use Rattle.usage.specs.Past.{Step}
use Rattle.usage.specs.Retirings.{thinned}
use Rattle.usage.specs.Outline.{IsTrace}
use Rattle.usage.specs.Valid.{OutlineOk}
use Rattle.usage.specs.Tables.{edges_of, EdgeTable}
use Rattle.monitor_state.specs.Judge.{start_state, answers_of}
use Rattle.checker.specs.Accepted.{raw_of, onto}
use Rattle.checker.specs.Summary.{Summary, Exact}
use Rattle.monitor_lean.specs.Lean.{marked, Agree, lean_answers, up_to_refusal, AgreeAll, not_refused}

-- "With the exact one, from the judge's start, on every trace of that outline, with or without retirings added, it answers as the full judge
-- does, step by step, up to and including the first refusal": the steps are those of a trace, with retirings of anything among them
abbrev pub LeanAnswers : List ℕ → Bool → List Node → Summary → Type 0
LeanAnswers t local ns m =
    (steps : List Step) → IsTrace ns (thinned (onto steps []))
    → up_to_refusal (lean_answers m t local start_state (map raw_of steps)) ≡ up_to_refusal (answers_of t local start_state (map raw_of steps))

-- the same with the states
abbrev pub LeanAgrees : List ℕ → Bool → List Node → Summary → Type 0
LeanAgrees t local ns m =
    (steps : List Step) → IsTrace ns (thinned (onto steps [])) → Agree (marked m) t local start_state (map raw_of steps)

-- Beyond refusals: a refused step changes no state, so it is enough that the steps that were not refused, retirings aside, are a trace of
-- the outline. Then all answers and all states are the full judge's, whatever numbers are handed over.
abbrev pub LeanAgreesAll : List ℕ → Bool → List Node → Summary → Type 0
LeanAgreesAll t local ns m =
    (raws : List RawStep) → IsTrace ns (thinned (not_refused t local start_state raws [])) → AgreeAll (marked m) t local start_state raws

abbrev pub LeanAnswersAll : List ℕ → Bool → List Node → Summary → Type 0
LeanAnswersAll t local ns m =
    (raws : List RawStep) → IsTrace ns (thinned (not_refused t local start_state raws []))
    → lean_answers m t local start_state raws ≡ answers_of t local start_state raws

-- What holds of a summary under these edges and this choice of past: where it is the exact one of an outline, all of this.
pub record LeanPromise (t : List ℕ) (local : Bool) (m : Summary) : Type 0 where
  pub agrees : EdgeTable t → (ns : List Node) → OutlineOk ns → Exact local (edges_of t) ns m → LeanAgrees t local ns m
  pub answers : EdgeTable t → (ns : List Node) → OutlineOk ns → Exact local (edges_of t) ns m → LeanAnswers t local ns m
  pub agrees_all : EdgeTable t → (ns : List Node) → OutlineOk ns → Exact local (edges_of t) ns m → LeanAgreesAll t local ns m
  pub answers_all : EdgeTable t → (ns : List Node) → OutlineOk ns → Exact local (edges_of t) ns m → LeanAnswersAll t local ns m
