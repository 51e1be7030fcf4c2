-- What the judge's own functions compute, where Judge.antt has no name for it.
use Rattle.std.specs.Prelude.{ℕ, ◌+◌, Bool, true, cond, List, eqb, get_or, set}
use Rattle.std.proofs.Math.Option.{Option, none, some}
use Rattle.std.specs.Prelude.{Option as Maybe, Some, None}
use Rattle.usage.specs.declared.Edge.{Edge}
use Rattle.usage.specs.Past.{Step, event, opening, closing, retiring}
use Rattle.usage.specs.declared.Reason.{Reason}
use Rattle.automaton.specs.Mask.{lowest_in}
use Rattle.monitor_sets.specs.Sets.{gathered}
use Rattle.monitor_sets.specs.Code.{event_sets}
use Rattle.monitor_pairs.specs.Blocks.{pairs_of, blocks_moved, blocks_created, with_gathered}
use Rattle.monitor_state.specs.declared.State.{State}
use Rattle.monitor_state.specs.declared.Judgement.{Judgement}
use Rattle.monitor_state.specs.declared.Told.{Told}
use Rattle.monitor_state.specs.declared.Sizes.{Sizes}
use Rattle.monitor_state.specs.declared.Answer.TheVariants.{Allowed, Violated}
use Rattle.monitor_state.specs.Judge.{refusal}
use Rattle.monitor_state.specs.Looked.{looked_at, judge_step_by}
pub use Rattle.monitor_state.specs.Lent.{Lent, lent_of, state_of, judgement_of, arrays_of, sizes_of}
use Rattle.monitor_state.specs.declared.Step.{Step as Read}
use Rattle.monitor_state.specs.declared.Step.TheVariants.{Event, Opening, Closing, Retiring}

-- the step that was read
abbrev pub said : Read → Step
said (Event a r) = event a r
said (Opening p) = opening p
said (Closing p) = closing p
said (Retiring r) = retiring r

-- if one was
abbrev pub says : Maybe Read → Option Step
says None = none
says (Some r) = some (said r)

-- ── A state by its parts ──

-- the counts with one opening of p more
abbrev pub one_more : List ℕ → ℕ → List ℕ
one_more unclosed p = set unclosed p (get_or unclosed p 0 + 1)

-- the judgement of a step that was read, by the policies `looked`
abbrev pub stepped : ℕ → Bool → List Edge → State → Step → Judgement
stepped looked local es s step = judge_step_by (looked_at looked) local es s step (refusal s step)

-- the sets of the pair policies after the event a(r): where it creates r, its place is first taken in use
unfoldable pub event_blocks : List Edge → ℕ → ℕ → ℕ → ℕ → List ℕ → List ℕ
event_blocks es a r at n pairs = blocks_moved es a r at n (cond (eqb a 0) (blocks_created es at pairs) pairs)

-- and what each policy may then be in
unfoldable pub event_possible : List Edge → ℕ → ℕ → ℕ → ℕ → List ℕ → List ℕ → List ℕ
event_possible es a r at n sets pairs =
    with_gathered (pairs_of es) n (event_blocks es a r at n pairs) (gathered n (event_sets es a r at n sets))

-- the same, halted
abbrev pub halted_sizes : Sizes → Sizes
halted_sizes z = record { count = z.count; highest = z.highest; depth = z.depth; halted = true }

-- what is told of a step that leaves the policies `bad` broken
unfoldable pub told_of : ℕ → Sizes → Sizes → Told Reason
told_of bad before after =
    cond (eqb bad 0) (record { answer = Allowed; sizes = after }) (record { answer = Violated (lowest_in bad); sizes = halted_sizes before })
