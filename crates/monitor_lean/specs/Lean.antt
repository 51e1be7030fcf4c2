-- The lean judge: at each step it looks at the policies that a summary marks there. The full judge looks at all of them.
use Rattle.std.specs.Prelude.{ℕ, ◌≡◌, Bool, false, ◌&&◌, List, [], ◌∷◌, eqb}
use Rattle.std.proofs.Math.Option.{Option}
use Rattle.usage.specs.declared.RawStep.{RawStep}
use Rattle.usage.specs.Past.{Step, event, opening, closing, retiring, Past}
use Rattle.usage.specs.Judge.{step_of, then}
use Rattle.usage.specs.declared.Reason.{Reason}
use Rattle.monitor_state.specs.declared.State.{State}
use Rattle.monitor_state.specs.declared.Answer.{Answer}
use Rattle.monitor_state.specs.declared.Answer.TheVariants.{Allowed, Violated, Refused}
use Rattle.monitor_state.specs.declared.Judgement.{Judgement}
use Rattle.monitor_state.specs.Judge.{judge_of}
pub use Rattle.checker.specs.Summary.{Summary, opening_bit, mark_at}
pub use Rattle.monitor_state.specs.Looked.{Looks, at_all, breaks_in}
unfoldable pub use Rattle.monitor_state.specs.Looked.{broken_among, judge_step_by, judge_read_by, judge_by, judge_sized}

-- ── A list of steps ──

-- a list of steps, each with the state that the last one returned
unfoldable pub answers_by : Looks → List ℕ → Bool → State → List RawStep → List (Answer Reason)
answers_by looks t local s [] = []
answers_by looks t local s (raw ∷ raws) = let j = judge_by looks t local s raw in j.answer ∷ answers_by looks t local j.state raws

-- ── The lean judge ──

-- A summary marks an event's action for a policy, and an opening for its own policy alone. A closing and a retiring have no mark.
abbrev pub marked : Summary → Looks
marked m (event a r) p = mark_at m p a
marked m (opening s) p = eqb s p && mark_at m p opening_bit
marked m (closing s) p = false
marked m (retiring r) p = false

-- "A lean judge, lent any summary"
abbrev pub lean_of : Summary → List ℕ → Bool → State → RawStep → Judgement
lean_of m t local s raw = judge_by (marked m) t local s raw

-- where the sets of pairs are lent as a slice
abbrev pub lean_sized : Summary → List ℕ → Bool → State → RawStep → Judgement
lean_sized m t local s raw = judge_sized (marked m) t local s raw

abbrev pub lean_answers : Summary → List ℕ → Bool → State → List RawStep → List (Answer Reason)
lean_answers m t local s raws = answers_by (marked m) t local s raws

-- ── Step by step, up to and including the first refusal ──

abbrev pub cut_at : Answer Reason → List (Answer Reason) → List (Answer Reason)
cut_at Allowed rest = rest
cut_at (Violated p) rest = rest
cut_at (Refused n) rest = []

-- the answers up to and including the first refusal
unfoldable pub up_to_refusal : List (Answer Reason) → List (Answer Reason)
up_to_refusal [] = []
up_to_refusal (a ∷ answers) = a ∷ cut_at a (up_to_refusal answers)

-- Two judges agree on these steps: at each one the whole judgement, answer and state, is the same, up to and including the first refusal.
pub data Agree (looks : Looks) (t : List ℕ) (local : Bool) : State → List RawStep → Type 0 where
  done : {s : State} → Agree looks t local s []
  stops : {s : State} {raw : RawStep} {raws : List RawStep} {n : Reason} → judge_by looks t local s raw ≡ judge_of t local s raw
      → (judge_of t local s raw).answer ≡ Refused n → Agree looks t local s (raw ∷ raws)
  next : {s : State} {raw : RawStep} {raws : List RawStep} → judge_by looks t local s raw ≡ judge_of t local s raw
      → Agree looks t local (judge_of t local s raw).state raws → Agree looks t local s (raw ∷ raws)

-- ── Over all steps ──

-- Two judges agree on all of these steps, those after a refusal too: at each one the whole judgement is the same.
pub data AgreeAll (looks : Looks) (t : List ℕ) (local : Bool) : State → List RawStep → Type 0 where
  none_left : {s : State} → AgreeAll looks t local s []
  both : {s : State} {raw : RawStep} {raws : List RawStep} → judge_by looks t local s raw ≡ judge_of t local s raw
      → AgreeAll looks t local (judge_of t local s raw).state raws → AgreeAll looks t local s (raw ∷ raws)

-- the past with a step that was allowed or violated; a refused one adds nothing
abbrev pub unless_refused : Answer Reason → Option Step → Past → Past
unless_refused Allowed o past = then o past
unless_refused (Violated p) o past = then o past
unless_refused (Refused n) o past = past

-- the past once those of these steps that the full judge does not refuse have been added to it
unfoldable pub not_refused : List ℕ → Bool → State → List RawStep → Past → Past
not_refused t local s [] past = past
not_refused t local s (raw ∷ raws) past =
    not_refused t local (judge_of t local s raw).state raws (unless_refused (judge_of t local s raw).answer (step_of raw) past)
