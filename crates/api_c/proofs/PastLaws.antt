-- The judge over lent arrays that stand for a past.
use Prim.Native.Nat.{ℕ, ◌≤◌}
use mathlib.Core.Path.{◌≡◌, refl, sym, ap, ◌∙◌, subst}
use mathlib.Core.Bool.{Bool, true, false, cond}
use mathlib.Core.List.{List}
use native.Mathlib.Omega.{arith}
use lib.Dec.{eqb}
use Rattle.usage.specs.declared.Edge.{Edge}
use Rattle.usage.specs.declared.RawStep.{RawStep}
use Rattle.usage.specs.Answers.{Verdict, refused}
use Rattle.usage.specs.Past.{Past}
use Rattle.usage.specs.Judge.{past_after, halted_after}
use Rattle.usage.specs.Tables.{edges_of}
use Rattle.usage.proofs.TableLaws.{decides-edge-table}
use Rattle.usage.specs.declared.Reason.{Reason}
use Rattle.monitor_state.specs.declared.State.{State}
use Rattle.monitor_state.specs.declared.Answer.{Answer}
use Rattle.monitor_state.specs.declared.Answer.TheVariants.{Allowed, Violated, Refused}
use Rattle.monitor_state.specs.Judge.{verdict_of, judge_of, start_state, start_created}
use Rattle.monitor_state.specs.Represents.{Represents}
use Rattle.monitor_state.proofs.StartLaws.{begin-represents}
use Rattle.monitor_state.proofs.Verdict.{judge-promised}
use Rattle.api_c.specs.Choice.{choice_of}
use Rattle.api_c.specs.Codes.{code_of}
use Rattle.api_c.specs.Parts.{Parts, highest_in, most_number, is_held, held_in_lem, holding, Answered, refuse_parts, answered_in}
use Rattle.api_c.specs.Parts.{judge_parts}
use Rattle.api_c.specs.Past.{StandsFor, KeepsIn, BeginsIn}
use Rattle.api_c.proofs.PartLaws.{is-held, held-highest, held-judged, answered-verdict, full-refusing}

-- ── The arrays that hold a state ──

held-holding : (s : State) → held_in_lem (holding s) ≡ s
unfolding held_in_lem holding
held-holding s =
    ap (λ (b : Bool). record { tracked = s.tracked; created = s.created; unclosed = s.unclosed; halted = b }) (back s.halted)
  where
    back : (b : Bool) → eqb (cond b 1 0) 1 ≡ b
    back true = refl
    back false = refl

is-holding : (s : State) → s.created.highest ≤ most_number → is_held (holding s) ≡ true
unfolding holding
is-holding s h = is-held (holding s) (small s.halted) h
  where
    small : (b : Bool) → cond b 1 0 ≤ 1
    small true = omega arith
    small false = omega arith

stands-holding : {local : Bool} {es : List Edge} {past : Past} {h : Bool} (s : State) → s.created.highest ≤ most_number → Represents local es past h s
    → StandsFor local es past h (holding s)
stands-holding {local} {es} {past} {h} s b R =
    record { held = is-holding s b; represents = subst (Represents local es past h) (sym (held-holding s)) R }

-- ── The start ──

pub begins : BeginsIn (holding start_state)
unfolding start_state start_created
begins local es = stands-holding start_state (omega arith) (begin-represents local es)

-- ── A step ──

module _ (local : Bool) (es : List Edge) (past : Past) (h : Bool) (raw : RawStep) (p : Parts) (S : StandsFor local es past h p) where
  abbrev After : Verdict → Parts → Type 0
  After v = StandsFor local es (past_after past raw v) (halted_after h v)

  answered-stands : (a : Answer Reason) (s : State) → highest_in (answered_in p a s).parts ≤ most_number
      → Represents local es (past_after past raw (verdict_of a)) (halted_after h (verdict_of a)) s → After (verdict_of a) (answered_in p a s).parts
  unfolding holding
  answered-stands Allowed s b R = stands-holding s b R
  answered-stands (Violated q) s b R = stands-holding s b R
  answered-stands (Refused n) s b R = S

module _ (t : List ℕ) (choice : ℕ) (p : Parts) (raw : RawStep) (r : ℕ) (p' : Parts) where
  -- a call that answers as its definition says keeps its promise, where the highest number that it leaves is of 32 bits
  pub keeps-past : r ≡ code_of (judge_parts t choice p raw).verdict → p' ≡ (judge_parts t choice p raw).parts
      → (is_held p ≡ true → highest_in p' ≤ most_number) → KeepsIn t choice p raw r p'
  keeps-past e f b past h c ok S =
      let j = judge_of t (choice_of choice) (held_in_lem p) raw in
      let k = judge-promised t ((decides-edge-table t).1 ok) (choice_of choice) past h (held_in_lem p) S.represents raw in
      let is = held-judged judge_of t choice p raw (full-refusing t choice p raw) c S.held in
      let left = f ∙ ap (λ (x : Answered). x.parts) is in
      record {
        verdict = verdict_of j.answer;
        told = e ∙ ap (λ (x : Answered). code_of x.verdict) is ∙ ap code_of (answered-verdict p j.answer j.state);
        judged = k.answer;
        state = subst (StandsFor (choice_of choice) (edges_of t) (past_after past raw (verdict_of j.answer)) (halted_after h (verdict_of j.answer)))
            (sym left)
            (answered-stands (choice_of choice) (edges_of t) past h raw p S j.answer j.state
            (subst (λ (x : Parts). highest_in x ≤ most_number) left (b S.held)) k.state);
      }

  -- what a function owes of a call
  abbrev pub Owed : Type 0
  Owed = record {
    value : r ≡ code_of (judge_parts t choice p raw).verdict;
    numbers_after : p' ≡ (judge_parts t choice p raw).parts;
    keeps_in : KeepsIn t choice p raw r p';
  }

  pub owed : r ≡ code_of (judge_parts t choice p raw).verdict → p' ≡ (judge_parts t choice p raw).parts
      → (is_held p ≡ true → highest_in p' ≤ most_number) → Owed
  owed e f b = record { value = e; numbers_after = f; keeps_in = keeps-past e f b }

-- a refusal leaves the arrays as they were lent
pub refused-owed : (t : List ℕ) (choice : ℕ) (p : Parts) (raw : RawStep) (n r : ℕ) → judge_parts t choice p raw ≡ refuse_parts n p
    → r ≡ code_of (refused n) → Owed t choice p raw r p
refused-owed t choice p raw n r e k =
    owed t choice p raw r p (k ∙ sym (ap (λ (x : Answered). code_of x.verdict) e)) (sym (ap (λ (x : Answered). x.parts) e)) (held-highest p)
