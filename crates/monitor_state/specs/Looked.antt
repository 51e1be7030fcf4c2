-- The judge over which policies are looked at at a step (02, L11). The full judge looks at all of them.
use Rattle.std.specs.Prelude.{ℕ, ◌^◌, Bool, true, not, ◌&&◌, cond, List, eqb, ltb, length}
use Rattle.std.proofs.Math.Option.{Option, none, some}
use Rattle.usage.specs.declared.Edge.{Edge}
use Rattle.usage.specs.declared.RawStep.{RawStep}
use Rattle.usage.specs.Limits.{policies}
use Rattle.usage.specs.Past.{Step}
use Rattle.usage.specs.Judge.{step_of}
use Rattle.usage.specs.Tables.{edges_of, is_edge_table}
use Rattle.usage.specs.declared.Reason.{Reason}
use Rattle.usage.specs.declared.Reason.TheVariants.{Halted, NoStep, Table, State as Unfit}
use Rattle.automaton.specs.Mask.{has, union, offends}
use Rattle.monitor_state.specs.declared.State.{State}
use Rattle.monitor_state.specs.declared.Judgement.{Judgement}
use Rattle.monitor_state.specs.Judge.{state_ok_lem, openings_of, pair_sets, possible_in, after, refusal, refuse, settle}

-- which policies are looked at at a step
abbrev pub Looks : Type 0
Looks = Step → ℕ → Bool

-- "The full judge": all of them
abbrev pub at_all : Looks
at_all step p = true

-- whether p is open with an offending state among its possible ones
abbrev pub breaks_in : State → ℕ → Bool
breaks_in s p = ltb 0 (openings_of s.unclosed p) && offends (possible_in s.tracked p)

-- the broken policies among those that are looked at, as a bit set
unfoldable pub broken_among : (ℕ → Bool) → State → ℕ
broken_among looked s = union policies (λ p. cond (looked p && breaks_in s p) (2 ^ p) 0)

-- "moves the states alike but judges a step only by the policies marked at it"
unfoldable pub judge_step_by : Looks → Bool → List Edge → State → Step → Option Reason → Judgement
judge_step_by looks local es s step (some n) = refuse n s
judge_step_by looks local es s step none = settle (broken_among (looks step) (after local es s step)) s (after local es s step)

unfoldable pub judge_read_by : Looks → Bool → List Edge → State → Option Step → Judgement
judge_read_by looks local es s none = refuse NoStep s
judge_read_by looks local es s (some step) = judge_step_by looks local es s step (refusal s step)

unfoldable pub judge_by : Looks → List ℕ → Bool → State → RawStep → Judgement
judge_by looks t local s raw =
    cond (not (is_edge_table t)) (refuse Table s)
    (cond (not (state_ok_lem s)) (refuse Unfit s)
    (cond s.halted (refuse Halted s)
    (judge_read_by looks local (edges_of t) s (step_of raw))))

-- the same where the sets of pairs are lent as a slice: one of another length than theirs is 42, before all others
unfoldable pub judge_sized : Looks → List ℕ → Bool → State → RawStep → Judgement
judge_sized looks t local s raw = cond (eqb (length s.tracked.pairs) pair_sets) (judge_by looks t local s raw) (refuse Unfit s)

-- the policies of a set, at every step; all of them as a set
abbrev pub looked_at : ℕ → Looks
looked_at looked step p = has looked p

abbrev pub all_policies : ℕ
all_policies = 255
