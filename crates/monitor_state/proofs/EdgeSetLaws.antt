-- The judge answers, and leaves the state, by the edges as a set (02, L12), from every state at all.
use Prim.Native.Nat.{ℕ, zero, suc, ◌+◌, ◌/◌, ◌%◌}
use mathlib.Core.Path.{◌≡◌, refl, ap, ◌∙◌}
use mathlib.Core.Bool.{Bool, cond}
use mathlib.Core.List.{List, [], ◌∷◌}
use mathlib.Core.Option.{Option, none, some}
use lib.Dec.{eqb, ltb}
use lib.ListN.{get_or}
use Rattle.usage.specs.declared.Edge.{Edge}
use Rattle.usage.specs.declared.RawStep.{RawStep}
use Rattle.usage.specs.Policy.{SameEdges}
use Rattle.usage.specs.Past.{Step, event, opening, closing, retiring}
use Rattle.usage.specs.Judge.{step_of}
use Rattle.usage.specs.Tables.{edges_of, EdgeTable}
use Rattle.usage.proofs.TableLaws.{from-ext, decides-edge-table}
use Rattle.usage.specs.declared.Reason.{Reason}
use Rattle.automaton.specs.Move.{move_mask}
use Rattle.automaton.proofs.EdgeSetLaws.{move_mask-set}
use Rattle.monitor_sets.specs.Instances.{instances, set_places}
use Rattle.monitor_sets.specs.Sets.{moved_sets}
use Rattle.monitor_state.specs.declared.State.{State}
use Rattle.monitor_state.specs.declared.Answer.{Answer}
use Rattle.monitor_state.specs.declared.Judgement.{Judgement}
use Rattle.monitor_pairs.specs.declared.which.Blocks.{Blocks}
use Rattle.monitor_pairs.specs.declared.Ways.{Ways}
use Rattle.monitor_pairs.specs.Pairs.{event_pairs}
use Rattle.monitor_pairs.specs.Tracked.{event_ways}
use Rattle.monitor_pairs.specs.Which.{blocks_of}
use Rattle.monitor_pairs.specs.Blocks.{pairs_of, each_block, blocks_moved}
use Rattle.monitor_pairs.proofs.EachLaws.{each_same}
use Rattle.monitor_pairs.proofs.SameWays.{ways-set, pairs_set}
use Rattle.monitor_state.specs.Judge.{place_of, used, creating, copied_in, moved_in, moving, entering, reset_in, releasing, retired_in, after, broken, refusal, settle}
use Rattle.monitor_state.specs.Judge.{judge_step, judge_read, judge_of, answers_of}

module _ (es fs : List Edge) (h : SameEdges es fs) where
  sets-set : (a r own n : ℕ) (sets : List ℕ) → moved_sets es a r own n sets ≡ moved_sets fs a r own n sets
  unfolding moved_sets
  sets-set a r own n sets =
      from-ext (at es) (at fs) 0 set_places (λ i l.
      ap (λ (m : ℕ). cond (ltb ((0 + i) % instances) n) m (get_or sets (0 + i) 0))
      (move_mask-set es fs h ((0 + i) / instances) a r (eqb ((0 + i) % instances) own) (get_or sets (0 + i) 0)))
    where
      at : List Edge → ℕ → ℕ
      at gs k = cond (ltb (k % instances) n) (move_mask gs (k / instances) a r (eqb (k % instances) own) (get_or sets k 0)) (get_or sets k 0)

  blocks-set : pairs_of es ≡ pairs_of fs
  blocks-set = ap blocks_of (pairs_set es fs h)

  pairs-moved-set : (a r own n : ℕ) (pairs : List ℕ) → blocks_moved es a r own n pairs ≡ blocks_moved fs a r own n pairs
  pairs-moved-set a r own n pairs =
      ap (λ (b : Blocks). each_block b (λ p. event_pairs (event_ways es p a r) own n) pairs) blocks-set
      ∙ each_same (pairs_of fs) (λ p. event_pairs (event_ways es p a r) own n) (λ p. event_pairs (event_ways fs p a r) own n) pairs
      (λ p sets. ap (λ (w : Ways). event_pairs w own n sets) (ways-set es fs h p a r))

  moved-set : (a r : ℕ) (s : State) → moving es a r s ≡ moving fs a r s
  unfolding moved_in moving
  moved-set a r s = rw (
    sets-set a r (place_of s.created r) (used s.created) s.tracked.sets,
    pairs-moved-set a r (place_of s.created r) (used s.created) s.tracked.pairs,
    blocks-set,
  ) refl

  after-set : (local : Bool) (s : State) (step : Step) → after local es s step ≡ after local fs s step
  unfolding after creating copied_in entering reset_in releasing retired_in
  after-set local s (event zero r) = moved-set 0 r (creating es s r) ∙ ap (moving fs 0 r) (rw blocks-set refl)
  after-set local s (event (suc a) r) = moved-set (suc a) r s
  after-set local s (opening p) = rw blocks-set refl
  after-set local s (closing p) = refl
  after-set local s (retiring r) = rw blocks-set refl

  step_set : (local : Bool) (s : State) (step : Step) (o : Option Reason) → judge_step local es s step o ≡ judge_step local fs s step o
  unfolding judge_step
  step_set local s step none = ap (λ (t : State). settle (broken t) s t) (after-set local s step)
  step_set local s step (some n) = refl

  read_set : (local : Bool) (s : State) (o : Option Step) → judge_read local es s o ≡ judge_read local fs s o
  unfolding judge_read
  read_set local s none = refl
  read_set local s (some step) = step_set local s step (refusal s step)

module _ (t u : List ℕ) (valid : EdgeTable t) (fine : EdgeTable u) (h : SameEdges (edges_of t) (edges_of u)) (local : Bool) where
  -- two tables that sheets give, with the same edges as a set
  pub judge-set : (s : State) (raw : RawStep) → judge_of t local s raw ≡ judge_of u local s raw
  unfolding judge_of
  judge-set s raw =
      rw ((decides-edge-table t).1 valid, (decides-edge-table u).1 fine, read_set (edges_of t) (edges_of u) h local s (step_of raw)) refl

  pub answers_set : (s : State) (raws : List RawStep) → answers_of t local s raws ≡ answers_of u local s raws
  unfolding answers_of
  answers_set s [] = refl
  answers_set s (raw ∷ raws) =
      ap (λ (j : Judgement). j.answer ∷ answers_of t local j.state raws) (judge-set s raw)
      ∙ ap (λ (rest : List (Answer Reason)). (judge_of u local s raw).answer ∷ rest) (answers_set (judge_of u local s raw).state raws)
