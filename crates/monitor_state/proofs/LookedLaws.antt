-- The full judge is the one that looks at all policies, and only what is looked at counts.
use Prim.Native.Nat.{ℕ, zero, suc, ◌^◌, ◌<◌}
use mathlib.Core.Path.{◌≡◌, refl, ap, ◌∙◌}
use mathlib.Core.Bool.{Bool, true, false, not, ◌&&◌, cond}
use mathlib.Core.List.{List}
use mathlib.Core.Option.{Option, none, some}
use native.Mathlib.Omega.{arith}
use borrow.Author.Tests.{eq-eqb}
use lib.Dec.{eqb}
use lib.ListN.{length}
use Rattle.usage.specs.declared.Edge.{Edge}
use Rattle.usage.specs.declared.RawStep.{RawStep}
use Rattle.usage.specs.Limits.{policies}
use Rattle.usage.specs.Past.{Step}
use Rattle.usage.specs.Judge.{step_of}
use Rattle.usage.specs.Tables.{edges_of, is_edge_table}
use Rattle.usage.proofs.Logic.{and_both, and-false}
use Rattle.usage.specs.declared.Reason.{Reason}
use Rattle.usage.specs.declared.Reason.TheVariants.{Halted, Table, State as Unfit}
use Rattle.automaton.specs.Mask.{has}
use Rattle.automaton.proofs.RowLaws.{union-ext}
use Rattle.monitor_state.specs.declared.State.{State}
use Rattle.monitor_state.specs.declared.Judgement.{Judgement}
use Rattle.monitor_state.specs.Judge.{state_ok_lem, after, broken, refusal, refuse, settle, judge_step, judge_read, judge_of, pair_sets}
use Rattle.monitor_state.specs.Looked.{Looks, at_all, breaks_in, broken_among, judge_step_by, judge_read_by, judge_by, judge_sized, looked_at, all_policies}

-- ── The full judge is the one that looks at all ──

pub broken-all : (s : State) → broken_among (λ p. true) s ≡ broken s
unfolding broken_among broken
broken-all s = refl

step-all : (local : Bool) (es : List Edge) (s : State) (step : Step) (o : Option Reason)
    → judge_step_by at_all local es s step o ≡ judge_step local es s step o
unfolding judge_step_by judge_step broken_among broken
step-all local es s step none = refl
step-all local es s step (some n) = refl

read_all : (local : Bool) (es : List Edge) (s : State) (o : Option Step) → judge_read_by at_all local es s o ≡ judge_read local es s o
unfolding judge_read_by judge_read
read_all local es s none = refl
read_all local es s (some step) = step-all local es s step (refusal s step)

pub full-looks-at-all : (t : List ℕ) (local : Bool) (s : State) (raw : RawStep) → judge_by at_all t local s raw ≡ judge_of t local s raw
unfolding judge_by judge_of
full-looks-at-all t local s raw =
    ap (λ (j : Judgement). cond (not (is_edge_table t)) (refuse Table s) (cond (not (state_ok_lem s)) (refuse Unfit s) (cond s.halted (refuse Halted s) j)))
    (read_all local (edges_of t) s (step_of raw))

-- ── A slice of the right length for the sets of pairs ──

pub sized-by : (looks : Looks) (t : List ℕ) (local : Bool) (s : State) (raw : RawStep) → length s.tracked.pairs ≡ pair_sets
    → judge_sized looks t local s raw ≡ judge_by looks t local s raw
unfolding judge_sized
sized-by looks t local s raw e = simp (eq-eqb _ _ e)

-- ── Looking at every policy that is broken is looking at all ──

pub broken-among-all : (looked : ℕ → Bool) (s : State) → ((p : ℕ) → p < policies → breaks_in s p ≡ true → looked p ≡ true)
    → broken_among looked s ≡ broken s
unfolding broken_among broken
broken-among-all looked s h = union-ext policies _ _ (λ p l. ap (λ (b : Bool). cond b (2 ^ p) 0) (same p l (breaks_in s p) refl))
  where
    same : (p : ℕ) → p < policies → (b : Bool) → breaks_in s p ≡ b → (looked p && b) ≡ b
    same p l true e = and_both (looked p) true (h p l e) refl
    same p l false e = and-false (looked p) false refl

-- ── Only what is looked at counts ──

module _ (looks others : Looks) where
  abbrev Alike : Step → Type 0
  Alike step = (p : ℕ) → p < policies → looks step p ≡ others step p

  among_same : (step : Step) (s : State) → Alike step → broken_among (looks step) s ≡ broken_among (others step) s
  unfolding broken_among
  among_same step s h =
      union-ext policies _ _ (λ p l. ap (λ (b : Bool). cond (b && breaks_in s p) (2 ^ p) 0) (h p l))

  step-alike : (local : Bool) (es : List Edge) (s : State) (step : Step) (o : Option Reason) → Alike step
      → judge_step_by looks local es s step o ≡ judge_step_by others local es s step o
  unfolding judge_step_by
  step-alike local es s step none h = ap (λ (bad : ℕ). settle bad s (after local es s step)) (among_same step (after local es s step) h)
  step-alike local es s step (some n) h = refl

  read_alike : (local : Bool) (es : List Edge) (s : State) (o : Option Step) → ((step : Step) → o ≡ some step → Alike step)
      → judge_read_by looks local es s o ≡ judge_read_by others local es s o
  unfolding judge_read_by
  read_alike local es s none h = refl
  read_alike local es s (some step) h = step-alike local es s step (refusal s step) (h step refl)

  -- two judges that look at the same policies at the step that is read
  pub looks-alike : (t : List ℕ) (local : Bool) (s : State) (raw : RawStep) → ((step : Step) → step_of raw ≡ some step → Alike step)
      → judge_by looks t local s raw ≡ judge_by others t local s raw
  unfolding judge_by
  looks-alike t local s raw h =
      ap (λ (j : Judgement). cond (not (is_edge_table t)) (refuse Table s) (cond (not (state_ok_lem s)) (refuse Unfit s) (cond s.halted (refuse Halted s) j)))
      (read_alike local (edges_of t) s (step_of raw) h)

  pub sized-alike : (t : List ℕ) (local : Bool) (s : State) (raw : RawStep) → ((step : Step) → step_of raw ≡ some step → Alike step)
      → judge_sized looks t local s raw ≡ judge_sized others t local s raw
  unfolding judge_sized
  sized-alike t local s raw h =
      ap (λ (j : Judgement). cond (eqb (length s.tracked.pairs) pair_sets) j (refuse Unfit s)) (looks-alike t local s raw h)

-- every policy is one of all
pub has_all : (p : ℕ) → p < policies → has all_policies p ≡ true
unfolding has
has_all zero l = refl
has_all (suc zero) l = refl
has_all (suc (suc zero)) l = refl
has_all (suc (suc (suc zero))) l = refl
has_all (suc (suc (suc (suc zero)))) l = refl
has_all (suc (suc (suc (suc (suc zero))))) l = refl
has_all (suc (suc (suc (suc (suc (suc zero)))))) l = refl
has_all (suc (suc (suc (suc (suc (suc (suc zero))))))) l = refl
has_all (suc (suc (suc (suc (suc (suc (suc (suc p)))))))) l = absurd (omega arith)

pub all-looked-at : (t : List ℕ) (local : Bool) (s : State) (raw : RawStep) → judge_by (looked_at all_policies) t local s raw ≡ judge_of t local s raw
all-looked-at t local s raw =
    looks-alike (looked_at all_policies) at_all t local s raw (λ step e. has_all) ∙ full-looks-at-all t local s raw
