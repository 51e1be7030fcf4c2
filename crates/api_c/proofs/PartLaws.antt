-- The laws of the judge over lent arrays.
use Prim.Native.Nat.{ℕ, ◌<◌, ◌≤◌}
use mathlib.Core.Path.{◌≡◌, refl, sym, ap, ◌∙◌}
use mathlib.Core.Bool.{Bool, true, false, not, ◌&&◌, cond}
use mathlib.Core.List.{List}
use borrow.Author.Tests.{le-leb, lt-leb, leb-true}
use lib.Dec.{leb}
use Rattle.usage.specs.declared.RawStep.{RawStep}
use Rattle.usage.specs.Answers.{refused}
use Rattle.usage.specs.declared.Reason.{Reason}
use Rattle.usage.specs.declared.Reason.TheVariants.{Table}
use Rattle.usage.specs.Tables.{is_edge_table}
use Rattle.usage.proofs.Logic.{clash, false-true, and_right}
use Rattle.std.specs.Prelude.{Option, Some, None}
use Rattle.monitor_state.specs.declared.State.{State}
use Rattle.monitor_state.specs.declared.Sizes.{Sizes}
use Rattle.monitor_state.specs.declared.Answer.{Answer}
use Rattle.monitor_state.specs.declared.Answer.TheVariants.{Allowed, Violated, Refused}
use Rattle.monitor_state.specs.declared.Judgement.{Judgement}
use Rattle.monitor_state.specs.declared.Told.{Told}
use Rattle.monitor_state.specs.Judge.{verdict_of, refuse, judge_of}
use Rattle.monitor_state.specs.Lent.{lent_of, judgement_of}
use Rattle.monitor_state.proofs.KeptLaws.{refused-kept}
use Rattle.monitor_lean.specs.Lean.{Looks, judge_by}
use Rattle.monitor_lean.proofs.KeptLaws.{by-refused-kept, by-table-refused}
use Rattle.api_c.specs.Parts.{Parts, parts_of, flag, highest_in, most_number, is_held, held_in_lem, holding, Answered, refuse_parts, answered_in}
use Rattle.api_c.specs.Parts.{Judges, parts_by, sizes_by, sizes_held, numbers_told}
use Rattle.api_c.specs.Choice.{is_choice, choice_of}
use Rattle.api_c.specs.Code.{is_refusal_lem}

-- ── A refusal leaves the arrays as they were lent ──

abbrev Keeps : Parts → ℕ → Answered → Type 0
Keeps p n r = r.verdict ≡ refused n → r.parts ≡ p

either-keeps : (p : Parts) (n : ℕ) (b : Bool) (x y : Answered) → Keeps p n x → Keeps p n y → Keeps p n (cond b x y)
either-keeps p n true x y f g = f
either-keeps p n false x y f g = g

answered-keeps : (p : Parts) (n : ℕ) (a : Answer Reason) (s : State) → Keeps p n (answered_in p a s)
answered-keeps p n Allowed s e = clash (cc)
answered-keeps p n (Violated q) s e = clash (cc)
answered-keeps p n (Refused m) s e = refl

-- Demand 1, of every array that the caller lent, for all inputs.
pub refusal-keeps : (judge : Judges) (edges : List ℕ) (choice : ℕ) (p : Parts) (raw : RawStep) (n : ℕ)
    → (parts_by judge edges choice p raw).verdict ≡ refused n → (parts_by judge edges choice p raw).parts ≡ p
unfolding parts_by
refusal-keeps judge edges choice p raw n =
    either-keeps p n (not (is_choice choice && is_edge_table edges)) (refuse_parts 41 p)
    (cond (not (is_held p)) (refuse_parts 42 p) judged) (λ e. refl)
    (either-keeps p n (not (is_held p)) (refuse_parts 42 p) judged (λ e. refl)
    (answered-keeps p n (judge edges (choice_of choice) (held_in_lem p) raw).answer (judge edges (choice_of choice) (held_in_lem p) raw).state))
  where
    judged : Answered
    judged = answered_in p (judge edges (choice_of choice) (held_in_lem p) raw).answer (judge edges (choice_of choice) (held_in_lem p) raw).state

pub answered-verdict : (p : Parts) (a : Answer Reason) (s : State) → (answered_in p a s).verdict ≡ verdict_of a
answered-verdict p Allowed s = refl
answered-verdict p (Violated q) s = refl
answered-verdict p (Refused n) s = refl

-- ── Whether the arrays hold a state ──

by_test : (b : Bool) (y : Sizes) (o : Option Sizes) → o ≡ cond b (Some y) None
    → ((z : Sizes) → o ≡ Some z → (b ≡ true) × (z ≡ y)) × (((z : Sizes) → o ≡ Some z → ⊥) → b ≡ false)
by_test true y o e = (λ z f. (refl, cc), λ n. absurd (n y e))
by_test false y o e = (λ z f. clash (cc), λ n. refl)

module _ (p : Parts) (o : Option Sizes) (e : o ≡ sizes_held p.numbers) where
  pub held-sizes : (z : Sizes) → o ≡ Some z → (is_held p ≡ true) × (z ≡ sizes_by p.numbers)
  unfolding is_held
  held-sizes = (by_test (leb (flag p) 1 && leb (highest_in p) most_number) (sizes_by p.numbers) o e).0

  pub none-held : ((z : Sizes) → o ≡ Some z → ⊥) → is_held p ≡ false
  unfolding is_held
  none-held = (by_test (leb (flag p) 1 && leb (highest_in p) most_number) (sizes_by p.numbers) o e).1

-- and the highest number of arrays that hold one
pub held-highest : (p : Parts) → is_held p ≡ true → highest_in p ≤ most_number
unfolding is_held
held-highest p h = leb-true (highest_in p) most_number (and_right (leb (flag p) 1) (leb (highest_in p) most_number) h)

pub is-held : (p : Parts) → flag p ≤ 1 → highest_in p ≤ most_number → is_held p ≡ true
unfolding is_held
is-held p f h = simp (le-leb (flag p) 1 f) (le-leb (highest_in p) most_number h)

-- ── The answer ──

module _ (judge : Judges) (edges : List ℕ) (choice : ℕ) (p : Parts) (raw : RawStep) where
  -- a choice that is none
  pub choice-refused : 1 < choice → parts_by judge edges choice p raw ≡ refuse_parts 41 p
  unfolding parts_by
  choice-refused h = simp (lt-leb choice 1 h)

  -- arrays that hold no state
  pub held-refused : choice ≤ 1 → is_held p ≡ false → parts_by judge edges choice p raw ≡ refuse_parts (cond (is_edge_table edges) 42 41) p
  unfolding parts_by
  held-refused c h = simp (le-leb choice 1 c) (go (is_edge_table edges) _)
    where
      go : (b : Bool) (r : Answered)
          → cond (not b) (refuse_parts 41 p) (cond (not (is_held p)) (refuse_parts 42 p) r) ≡ refuse_parts (cond b 42 41) p
      go true r = rw h
      go false r = refl

  -- of a table that no sheet gives, and of a refusal
  pub record Refusing : Type 0 where
    pub table : is_edge_table edges ≡ false → judge edges (choice_of choice) (held_in_lem p) raw ≡ refuse Table (held_in_lem p)
    pub kept : (n : Reason) → (judge edges (choice_of choice) (held_in_lem p) raw).answer ≡ Refused n
        → (judge edges (choice_of choice) (held_in_lem p) raw).state ≡ held_in_lem p

  -- else the answer is the judge's, 41 too
  pub held-judged : Refusing → choice ≤ 1 → is_held p ≡ true
      → parts_by judge edges choice p raw
      ≡ answered_in p (judge edges (choice_of choice) (held_in_lem p) raw).answer (judge edges (choice_of choice) (held_in_lem p) raw).state
  unfolding parts_by refuse
  held-judged f c h = simp (le-leb choice 1 c) (go (is_edge_table edges) refl)
    where
      go : (b : Bool) → is_edge_table edges ≡ b
          → cond (not b) (refuse_parts 41 p)
          (cond (not (is_held p)) (refuse_parts 42 p)
          (answered_in p (judge edges (choice_of choice) (held_in_lem p) raw).answer (judge edges (choice_of choice) (held_in_lem p) raw).state))
          ≡ answered_in p (judge edges (choice_of choice) (held_in_lem p) raw).answer (judge edges (choice_of choice) (held_in_lem p) raw).state
      go true e = rw h
      go false e = sym (ap (λ (j : Judgement). answered_in p j.answer j.state) (f.table e))

  -- ── What is told, and what is left in the arrays ──

  module _ (f : Refusing) (c : choice ≤ 1) (h : is_held p ≡ true) (t : Told Reason) (sets pairs possible created unclosed order : List ℕ)
      (is : judgement_of t (lent_of sets pairs possible created unclosed order) ≡ judge edges (choice_of choice) (held_in_lem p) raw) where
    pub told-verdict : verdict_of t.answer ≡ (parts_by judge edges choice p raw).verdict
    told-verdict =
        sym (answered-verdict p t.answer (judge edges (choice_of choice) (held_in_lem p) raw).state)
        ∙ ap (λ (a : Answer Reason). (answered_in p a (judge edges (choice_of choice) (held_in_lem p) raw).state).verdict)
        (ap (λ (j : Judgement). j.answer) is)
        ∙ sym (ap (λ (r : Answered). r.verdict) (held-judged f c h))

    left : {q : Parts} → q ≡ (answered_in p t.answer (judgement_of t (lent_of sets pairs possible created unclosed order)).state).parts
        → q ≡ (parts_by judge edges choice p raw).parts
    left e =
        e ∙ ap (λ (j : Judgement). (answered_in p j.answer j.state).parts) is ∙ sym (ap (λ (r : Answered). r.parts) (held-judged f c h))

    -- a refusal: the arrays are those of the state that was lent
    pub refused-left : is_refusal_lem t.answer ≡ true
        → parts_of sets pairs possible created unclosed order p.numbers ≡ (parts_by judge edges choice p raw).parts
    unfolding held_in_lem
    refused-left r = left (by_answer t.answer r refl)
      where
        by_answer : (a : Answer Reason) → is_refusal_lem a ≡ true → t.answer ≡ a
            → parts_of sets pairs possible created unclosed order p.numbers
            ≡ (answered_in p a (judgement_of t (lent_of sets pairs possible created unclosed order)).state).parts
        by_answer Allowed r e = false-true r
        by_answer (Violated q) r e = false-true r
        by_answer (Refused n) r e =
            let same : (judgement_of t (lent_of sets pairs possible created unclosed order)).state ≡ held_in_lem p =
            ap (λ (j : Judgement). j.state) is
            ∙ f.kept n (ap (λ (j : Judgement). j.answer) (sym is) ∙ e) in
            ap (λ (s : State). parts_of s.tracked.sets s.tracked.pairs s.tracked.possible s.created.numbers s.unclosed.counts s.unclosed.order
            p.numbers) same

    -- otherwise the numbers are those of the new state
    pub taken-left : is_refusal_lem t.answer ≡ false
        → parts_of sets pairs possible created unclosed order (numbers_told t.sizes) ≡ (parts_by judge edges choice p raw).parts
    unfolding holding
    taken-left r = left (by_answer t.answer r)
      where
        by_answer : (a : Answer Reason) → is_refusal_lem a ≡ false
            → holding (judgement_of t (lent_of sets pairs possible created unclosed order)).state ≡ (answered_in p a
            (judgement_of t (lent_of sets pairs possible created unclosed order)).state).parts
        by_answer Allowed r = refl
        by_answer (Violated q) r = refl
        by_answer (Refused n) r = false-true (sym r)

-- both judges refuse so
pub full-refusing : (edges : List ℕ) (choice : ℕ) (p : Parts) (raw : RawStep) → Refusing judge_of edges choice p raw
unfolding judge_of
full-refusing edges choice p raw = record {
  table = λ e. simp e;
  kept = refused-kept edges (choice_of choice) (held_in_lem p) raw;
}

pub looked-refusing : (looks : Looks) (edges : List ℕ) (choice : ℕ) (p : Parts) (raw : RawStep)
    → Refusing (judge_by looks) edges choice p raw
looked-refusing looks edges choice p raw = record {
  table = by-table-refused looks edges (choice_of choice) (held_in_lem p) raw;
  kept = by-refused-kept looks edges (choice_of choice) (held_in_lem p) raw;
}
