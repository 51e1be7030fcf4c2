use Prim.Native.Nat.{ℕ, ◌+◌, ◌*◌, ◌<◌}
use mathlib.Core.Path.{◌≡◌, sym, ap, ◌∙◌}
use native.Mathlib.Omega.{arith}
use lib.ListN.{length, get_or, set}
use lib.Seq.{get_or-set_same, get_or-set_other}
use Rattle.usage.specs.Limits.{states}
use Rattle.automaton.specs.Move.{move_by}
use Rattle.automaton.proofs.RowLaws.{policy-held}
use Rattle.monitor_sets.specs.Instances.{instances}
use Rattle.monitor_sets.proofs.MovedLaws.{moved-policy, policy-moved, policy-gathered}
use Rattle.monitor_sets.proofs.instances.move_policy.Goals as goal

pub returns : goal.returns
returns c =
    let a = c.args in
    let m = c.move_set-moved in
    let row = c.move_row-others in
    let place = a.p * instances + a.at in
    let l : place < length a.sets.now = omega arith in
    let kept : (k : ℕ) → (k ≡ place → ⊥) → get_or (set a.sets.now place 0) k 0 ≡ get_or a.sets.now k 0 =
    λ k d. get_or-set_other {A = ℕ} a.sets.now place k 0 0 d in
    let rows = c.policy_rows.result in
    let held : (v : ℕ) → move_by a.other.now (a.p * states) v ≡ move_by rows 0 v =
    λ v. policy-held a.other.now a.p v c.requires.p_lt_policies ∙ sym (ap (λ u. move_by u 0 v) c.policy_rows.ensures) in
    let own = m.ensures ∙ moved-policy a.own.now a.p _ (omega arith) in record {
      sets_after = rw row.ensures.sets_after
          (policy-moved a.own.now a.other.now a.n a.at a.sets.now a.p (set a.sets.now place 0) _ m.result
          (omega arith) (omega arith) (omega arith) kept held own);
      value = policy-gathered a.own.now a.other.now a.n a.at a.sets.now a.p (set a.sets.now place 0) _ m.result
          (omega arith) (omega arith) (omega arith) kept held own
          (get_or-set_same {A = ℕ} a.sets.now place 0 0 l) row.result row.ensures.value;
    }
