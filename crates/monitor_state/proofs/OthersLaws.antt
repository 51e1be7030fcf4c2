-- Retirings after the last event on what they retire change no answer to another step before the first 30 without them (02, L8).
use Prim.Native.Nat.{ℕ}
use mathlib.Core.Path.{◌≡◌, refl, sym, ap, subst}
use mathlib.Core.Bool.{Bool, true, false}
use mathlib.Core.List.{List, ◌∷◌, map}
use Rattle.usage.specs.declared.RawStep.{RawStep}
use Rattle.usage.specs.Answers.{Verdict, refused}
use Rattle.usage.specs.Tables.{edges_of, is_edge_table}
use Rattle.usage.specs.Retirings.{Between, none_between, other_step, one_between, SameOthers, none_other, same_answer, passed_over}
use Rattle.usage.proofs.ThinnedLaws.{others_same}
use Rattle.usage.specs.declared.Reason.TheVariants.{Table}
use Rattle.monitor_state.specs.declared.State.{State}
use Rattle.monitor_state.specs.declared.Judgement.{Judgement}
use Rattle.monitor_state.specs.Judge.{verdict_of, refuse, judge_of, answers_of, start_state}
use Rattle.monitor_state.specs.Others.{OthersKept}
use Rattle.monitor_state.proofs.Verdict.{all-judged-begin}

-- under a table that no accepted sheet gives every answer is 41
module _ (t : List ℕ) (bad : is_edge_table t ≡ false) (local : Bool) (s : State) where
  judge-bad : (raw : RawStep) → judge_of t local s raw ≡ refuse Table s
  unfolding judge_of
  judge-bad raw = rw bad

  abbrev verdicts : List RawStep → List Verdict
  verdicts raws = map verdict_of (answers_of t local s raws)

  verdicts-bad : (raw : RawStep) (raws : List RawStep) → verdicts (raw ∷ raws) ≡ refused 41 ∷ verdicts raws
  unfolding answers_of refuse
  verdicts-bad raw raws = ap (λ (j : Judgement). verdict_of j.answer ∷ map verdict_of (answers_of t local j.state raws)) (judge-bad raw)

  bad-same : {raws more : List RawStep} → Between raws more → SameOthers raws (verdicts raws) more (verdicts more)
  unfolding answers_of
  bad-same none_between = none_other
  bad-same (other_step {raw} {raws} {more} n b) =
      subst (λ (vs : List Verdict). SameOthers (raw ∷ raws) vs (raw ∷ more) (verdicts (raw ∷ more))) (sym (verdicts-bad raw raws))
      (subst (λ (ws : List Verdict). SameOthers (raw ∷ raws) (refused 41 ∷ verdicts raws) (raw ∷ more) ws) (sym (verdicts-bad raw more))
      (same_answer n (bad-same b)))
  bad-same (one_between {r} {raw} {raws} {more} e d b) =
      subst (λ (ws : List Verdict). SameOthers raws (verdicts raws) (raw ∷ more) ws) (sym (verdicts-bad raw more)) (passed_over e (bad-same b))

pub others-kept : OthersKept start_state
others-kept t local raws more b = go (is_edge_table t) refl
  where
    go : (ok : Bool) → is_edge_table t ≡ ok
        → SameOthers raws (map verdict_of (answers_of t local start_state raws)) more (map verdict_of (answers_of t local start_state more))
    go true e = others_same local (edges_of t) b (all-judged-begin t e local raws) (all-judged-begin t e local more)
    go false e = bad-same t e local start_state b
