-- The judge's answer to a step, case by case.
use Prim.Native.Nat.{ℕ, zero, suc, ◌<◌, ◌≤◌}
use mathlib.Core.Path.{◌≡◌, refl, sym}
use mathlib.Core.Bool.{Bool, true, false, not, ◌&&◌, ◌||◌, cond}
use mathlib.Core.List.{List}
use mathlib.Core.Option.{Option, none, some}
use native.Mathlib.Omega.{arith}
use lib.Dec.{ltb}
use borrow.Author.Tests.{eq-eqb, ne_eqb, le-leb, lt-leb, lt-ltb, le-ltb}
use Rattle.usage.specs.declared.Edge.{Edge}
use Rattle.usage.specs.declared.RawStep.{RawStep}
use Rattle.usage.specs.Limits.{statics, most_created, most_unclosed}
use Rattle.usage.specs.Past.{Step, event, opening, closing, retiring}
use Rattle.usage.specs.Judge.{step_of}
use Rattle.usage.specs.Tables.{edges_of, is_edge_table}
use Rattle.usage.proofs.Logic.{false-true}
use Rattle.usage.specs.declared.Reason.{Reason}
use Rattle.usage.specs.declared.Reason.TheVariants.{Halted, CreateStatic, NotLive, NotOpen, NotNewest, NotAbove, RetireNotLive, TooManyLive, TooManyOpen, Table, State as Unfit}
use Rattle.monitor_state.specs.declared.State.{State}
use Rattle.monitor_state.specs.Judge.{live, listed, openings_of, last_opened, state_ok_lem, after, refusal, refuse, settle}
use Rattle.monitor_state.specs.Looked.{broken_among, judge_step_by, judge_read_by, judge_by, looked_at}
use Rattle.monitor_state.specs.Code.{stepped}
use Rattle.monitor_state.proofs.Places.{known}

-- ── A step that was read ──

module _ (looked : ℕ) (local : Bool) (es : List Edge) (s : State) (step : Step) where
  pub step-refused : (n : Reason) → refusal s step ≡ some n → stepped looked local es s step ≡ refuse n s
  unfolding judge_step_by
  step-refused n e = rw e

  pub step-taken : (t : State) → refusal s step ≡ none → t ≡ after local es s step
      → stepped looked local es s step ≡ settle (broken_among (looked_at looked step) t) s t
  unfolding judge_step_by
  step-taken t e f = rw (e, f)

-- ── The number that refuses it ──

module _ (s : State) (p : ℕ) where
  pub opening-deep : most_unclosed ≤ s.unclosed.depth → refusal s (opening p) ≡ some TooManyOpen
  unfolding refusal
  opening-deep h = simp (le-leb most_unclosed s.unclosed.depth h)

  pub opening-free : s.unclosed.depth < most_unclosed → refusal s (opening p) ≡ none
  unfolding refusal
  opening-free h = simp (lt-leb most_unclosed s.unclosed.depth h)

  pub closing-closed : openings_of s.unclosed p ≡ 0 → refusal s (closing p) ≡ some NotOpen
  unfolding refusal
  closing-closed h = simp (le-ltb 0 (openings_of s.unclosed p) (omega arith))

  pub closing-not-last : 0 < openings_of s.unclosed p → (last_opened s.unclosed ≡ p → ⊥) → refusal s (closing p) ≡ some NotNewest
  unfolding refusal
  closing-not-last h n = simp (lt-ltb 0 (openings_of s.unclosed p) h, ne_eqb (last_opened s.unclosed) p n)

  pub closing-free : 0 < openings_of s.unclosed p → last_opened s.unclosed ≡ p → refusal s (closing p) ≡ none
  unfolding refusal
  closing-free h e = simp (lt-ltb 0 (openings_of s.unclosed p) h, eq-eqb (last_opened s.unclosed) p e)

module _ (s : State) (r : ℕ) where
  pub create-static : r < statics → refusal s (event 0 r) ≡ some CreateStatic
  unfolding refusal
  create-static h = simp (lt-ltb r statics h)

  pub create-low : statics ≤ r → r ≤ s.created.highest → refusal s (event 0 r) ≡ some NotAbove
  unfolding refusal
  create-low h l = simp (le-ltb r statics h, le-leb r s.created.highest l)

  pub create-full : statics ≤ r → s.created.highest < r → most_created ≤ s.created.count → refusal s (event 0 r) ≡ some TooManyLive
  unfolding refusal
  create-full h l f = simp (le-ltb r statics h, lt-leb r s.created.highest l, le-leb most_created s.created.count f)

  pub create-free : statics ≤ r → s.created.highest < r → s.created.count < most_created → refusal s (event 0 r) ≡ none
  unfolding refusal
  create-free h l f = simp (le-ltb r statics h, lt-leb r s.created.highest l, lt-leb most_created s.created.count f)

  -- a retiring
  pub retiring-unknown : known s.created r ≡ false → refusal s (retiring r) ≡ some RetireNotLive
  unfolding refusal
  retiring-unknown k = go (ltb r statics) (listed r (live s.created)) k
    where
      go : (b c : Bool) → (b || c) ≡ false → cond {A = Option Reason} (not b && c) none (some RetireNotLive) ≡ some RetireNotLive
      go true c e = refl
      go false true e = false-true (sym e)
      go false false e = refl

  pub retiring-static : r < statics → refusal s (retiring r) ≡ some RetireNotLive
  unfolding refusal
  retiring-static h = simp (lt-ltb r statics h)

  pub retiring-free : statics ≤ r → listed r (live s.created) ≡ true → refusal s (retiring r) ≡ none
  unfolding refusal
  retiring-free h l = simp (le-ltb r statics h, l)

  -- another event
  pub use-unknown : (a : ℕ) → (a ≡ 0 → ⊥) → known s.created r ≡ false → refusal s (event a r) ≡ some NotLive
  unfolding refusal
  use-unknown zero h k = absurd (h refl)
  use-unknown (suc a) h k = simp k

  pub use-known : (a : ℕ) → (a ≡ 0 → ⊥) → known s.created r ≡ true → refusal s (event a r) ≡ none
  unfolding refusal
  use-known zero h k = absurd (h refl)
  use-known (suc a) h k = simp k

-- ── The step as it is handed over ──

module _ (looked : ℕ) (edges : List ℕ) (local : Bool) (s : State) (raw : RawStep) where
  pub table-refused : is_edge_table edges ≡ false → judge_by (looked_at looked) edges local s raw ≡ refuse Table s
  unfolding judge_by
  table-refused e = simp e

  module _ (t : is_edge_table edges ≡ true) where
    pub state-refused : state_ok_lem s ≡ false → judge_by (looked_at looked) edges local s raw ≡ refuse Unfit s
    unfolding judge_by
    state-refused e = simp (t, e)

    module _ (w : state_ok_lem s ≡ true) where
      pub halted-refused : s.halted ≡ true → judge_by (looked_at looked) edges local s raw ≡ refuse Halted s
      unfolding judge_by
      halted-refused e = simp (t, w, e)

      pub judged : s.halted ≡ false → judge_by (looked_at looked) edges local s raw ≡ judge_read_by (looked_at looked) local (edges_of edges) s (step_of raw)
      unfolding judge_by
      judged h = simp (t, w, h)
