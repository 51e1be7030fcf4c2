-- A call, from what was written: which desk the bytes encode before it and after it.
use Prim.Native.Nat.{ℕ, ◌+◌, ◌≤◌}
use mathlib.Core.Path.{◌≡◌, refl, sym, ap, ap₂, ◌∙◌, subst}
use mathlib.Core.Bool.{Bool, true, false, ◌&&◌, cond}
use mathlib.Core.Option.{none, some}
use mathlib.Core.List.{List}
use native.Mathlib.Omega.{arith}
use lib.ListN.{length}
use borrow.Author.Tests.{ne_eqb}
use Rattle.usage.specs.declared.RawStep.{RawStep}
use Rattle.usage.specs.Answers.{Verdict, allowed, violated, refused}
use Rattle.usage.specs.Judge.{step_of}
use Rattle.usage.specs.Tables.{is_edge_table}
use Rattle.usage.proofs.Logic.{and-false, false-true}
use Rattle.usage.specs.declared.Reason.{Reason}
use Rattle.monitor_state.specs.declared.Answer.{Answer}
use Rattle.usage.specs.Reasons.{number_of}
use Rattle.monitor_state.specs.declared.Answer.TheVariants.{Allowed, Violated, Refused}
use Rattle.monitor_state.specs.declared.Judgement.{Judgement}
use Rattle.monitor_state.specs.Judge.{verdict_of, state_ok_lem, refuse}
use Rattle.monitor_lean.specs.Lean.{judge_by}
use Rattle.desk.specs.declared.Head.{Head}
use Rattle.desk.specs.Layout.{desk_bytes, head_in_lem}
use Rattle.desk.specs.JudgeBytes.{judge_in}
use Rattle.desk.specs.State.{local_in, edges_in, summary_in, loaded_in, desk_by, desk_in, head_ok_lem}
use Rattle.desk.specs.State.{rows_fit, encoded_by, is_encoded, is_sound_lem, desk_of, looks_of}
use Rattle.desk.specs.Desk.{Loaded, Desk, stays_on, looks_by, outline_for, reply_with, step_loaded, step_desk}
use Rattle.desk.specs.Promise.{is_refusal_lem}
use Rattle.desk.specs.Calls.{Given, desk_code, is_refused, plain, given_by, given_step, LeavesBytes, Called, no_desk, called, ByStep}
use Rattle.desk.specs.Calls.{replied}
use Rattle.desk.specs.Code.{told}
use Rattle.desk.proofs.JudgedLaws.{judge-41, judge-42, taken-ok, not-41}

-- ── An answer as one number ──

pub plain-bit : (lean : Bool) → cond lean 65536 0 ≡ desk_code (given_by allowed lean)
plain-bit true = refl
plain-bit false = refl

pub violated-bit : (p : ℕ) (lean : Bool) → p + 256 + cond lean 65536 0 ≡ desk_code (given_by (violated p) lean)
violated-bit p true = omega arith
violated-bit p false = omega arith

pub refused-bit : (n : ℕ) (lean : Bool) → n + 512 ≡ desk_code (given_by (refused n) lean)
refused-bit n lean = omega arith

-- ── Which desk ──

module _ (b : List ℕ) (h : Head) (is : head_in_lem b ≡ h) where
  pub nothing-loaded : h.policies ≡ 0 → (desk_of b ≡ some none)
  unfolding desk_of is_encoded encoded_by desk_in desk_by is_sound_lem
  nothing-loaded e = rw (is, e)

  pub not-encoded : encoded_by b h ≡ false → desk_of b ≡ none
  unfolding desk_of is_encoded
  not-encoded e = rw (is, e)

  module _ (some-policies : h.policies ≡ 0 → ⊥) where
    pub desk-is : desk_in b ≡ some (loaded_in b h)
    unfolding desk_in desk_by
    desk-is = rw (is, ne_eqb _ _ some-policies)

    pub encoded-is : encoded_by b h ≡ (head_ok_lem h && rows_fit b h)
    unfolding encoded_by
    encoded-is = rw (ne_eqb _ _ some-policies)

    pub not_sound : is_sound_lem (some (loaded_in b h)) ≡ false → desk_of b ≡ none
    unfolding desk_of
    not_sound e = ap (λ (d : Desk). cond (is_encoded b && is_sound_lem d) (some d) none) desk-is ∙ rw (e, and-false (is_encoded b) false refl)

    pub sound-desk : encoded_by b h ≡ true → is_sound_lem (some (loaded_in b h)) ≡ true → desk_of b ≡ some (some (loaded_in b h))
    unfolding desk_of is_encoded
    sound-desk e f = ap (λ (d : Desk). cond (encoded_by b (head_in_lem b) && is_sound_lem d) (some d) none) desk-is ∙ rw (is, e, f)

pub bad-head : (b : List ℕ) (h : Head) (is : head_in_lem b ≡ h) (pol : h.policies ≡ 0 → ⊥) → head_ok_lem h ≡ false → desk_of b ≡ none
bad-head b h is pol e = not-encoded b h is (encoded-is b h is pol ∙ ap (λ x. x && rows_fit b h) e)

pub bad-rows : (b : List ℕ) (h : Head) (is : head_in_lem b ≡ h) (pol : h.policies ≡ 0 → ⊥) → rows_fit b h ≡ false → desk_of b ≡ none
bad-rows b h is pol e = not-encoded b h is (encoded-is b h is pol ∙ and-false (head_ok_lem h) (rows_fit b h) e)

-- ── A step ──

module _ (b : List ℕ) (h : Head) (raw : RawStep) (l : desk_bytes ≤ length b) (is : head_in_lem b ≡ h) (pol : h.policies ≡ 0 → ⊥)
    (enc : encoded_by b h ≡ true) where
  abbrev d : Loaded
  d = loaded_in b h

  abbrev asked : Bool → Judgement
  asked lean = judge_by (looks_of lean (summary_in b)) (edges_in b h) (local_in h) (judge_in b h) raw

  -- the judgement is that of the judge that the definition asks
  abbrev Same : Bool → Type 0
  Same lean = asked lean ≡ judge_by (looks_by (stays_on d.outline (step_of raw)) d.outline) d.edges d.local d.judge raw

  reply-is : (lean : Bool) → Same lean
      → step_desk (some d) raw ≡ reply_with d (step_of raw) (stays_on d.outline (step_of raw)) (asked lean)
  unfolding step_loaded
  reply-is lean same = ap (reply_with d (step_of raw) (stays_on d.outline (step_of raw))) (sym same)

  -- the answer of the desk, from what it is
  called-step : is_sound_lem (some d) ≡ true → (g : Given) (d' : Desk) (b' : List ℕ) → given_step (step_desk (some d) raw) ≡ g
      → (step_desk (some d) raw).desk ≡ d' → LeavesBytes (is_refused g.verdict) b d' b' → Called (ByStep raw) b (desk_code g) b'
  called-step ok g d' b' e f leaves =
      subst (λ (g : Given). LeavesBytes (is_refused g.verdict) b d' b' → Called (ByStep raw) b (desk_code g) b') e
      (subst (λ (d' : Desk). LeavesBytes (is_refused (given_step (step_desk (some d) raw)).verdict) b d' b'
      → Called (ByStep raw) b (desk_code (given_step (step_desk (some d) raw))) b') f
      (λ leaves. called l (sound-desk b h is pol enc ok) replied leaves))
      leaves

  pub step-refused : (lean : Bool) → Same lean → (j : Judgement) → j ≡ asked lean → is_refusal_lem j.answer ≡ true
      → Called (ByStep raw) b (desk_code (given_by (told j.answer) lean)) b
  unfolding loaded_in is_sound_lem refuse
  step-refused lean same j e r = go j.answer refl r (is_edge_table (edges_in b h)) refl (state_ok_lem (judge_in b h)) refl
    where
      Goal : Answer Reason → Type 0
      Goal a = Called (ByStep raw) b (desk_code (given_by (told a) lean)) b

      bad : is_edge_table (edges_in b h) ≡ true → state_ok_lem (judge_in b h) ≡ false → is_sound_lem (some d) ≡ false
      bad p s = ap₂ (λ x y. x && y) p s

      go : (a : Answer Reason) → j.answer ≡ a → is_refusal_lem a ≡ true → (x : Bool) → is_edge_table (edges_in b h) ≡ x → (y : Bool)
          → state_ok_lem (judge_in b h) ≡ y → Goal j.answer
      go Allowed q r x p y s = false-true r
      go (Violated n) q r x p y s = false-true r
      go (Refused n) q r false p y s =
          subst Goal (sym (ap (λ (k : Judgement). k.answer) (e ∙ judge-41 (looks_of lean (summary_in b)) (edges_in b h) (local_in h) (judge_in b h) raw p)))
          (no_desk l (not_sound b h is pol (ap (λ x. x && state_ok_lem (judge_in b h)) p)))
      go (Refused n) q r true p false s =
          subst Goal (sym (ap (λ (k : Judgement). k.answer) (e ∙ judge-42 (looks_of lean (summary_in b)) (edges_in b h) (local_in h) (judge_in b h) raw p s)))
          (no_desk l (not_sound b h is pol (bad p s)))
      go (Refused n) q r true p true s =
          let f : (asked lean).answer ≡ Refused n = ap (λ (k : Judgement). k.answer) (sym e) ∙ q in
          let apart : number_of n ≡ 41 → ⊥ = not-41 (looks_of lean (summary_in b)) (edges_in b h) (local_in h) (judge_in b h) raw p s n f in
          let shown : told j.answer ≡ refused (number_of n) = ap told q ∙ ap (λ x. refused (cond x 42 (number_of n))) (ne_eqb (number_of n) 41 apart) in
          subst (λ (v : Verdict). Called (ByStep raw) b (desk_code (given_by v lean)) b) (sym shown)
          (called-step (ap₂ (λ x y. x && y) p s) (plain (refused (number_of n))) _ b
          (ap given_step (reply-is lean same) ∙ ap (λ (a : Answer Reason). given_by (verdict_of a) (stays_on d.outline (step_of raw))) f) refl refl)

  -- the desk after a step that is not refused
  abbrev desk_after : Judgement → Desk
  desk_after j = some record {
    edges = d.edges;
    local = d.local;
    outline = outline_for j.answer d.outline (step_of raw);
    judge = j.state;
  }

  pub step-stored : (lean : Bool) → Same lean → (j : Judgement) → j ≡ asked lean → is_refusal_lem j.answer ≡ false
      → stays_on d.outline (step_of raw) ≡ lean → (b' : List ℕ) → LeavesBytes false b (desk_after j) b'
      → Called (ByStep raw) b (desk_code (given_by (told j.answer) lean)) b'
  unfolding loaded_in is_sound_lem
  step-stored lean same j e r stays b' leaves = go j.answer refl r
    where
      ok : (is_edge_table (edges_in b h) ≡ true) × (state_ok_lem (judge_in b h) ≡ true)
      ok =
          taken-ok (looks_of lean (summary_in b)) (edges_in b h) (local_in h) (judge_in b h) raw
          (ap (λ (k : Judgement). is_refusal_lem k.answer) (sym e) ∙ r)

      given : (a : Answer Reason) → j.answer ≡ a → given_step (step_desk (some d) raw) ≡ given_by (verdict_of a) lean
      given a q =
          ap given_step (reply-is lean same)
          ∙ ap₂ (λ (a : Answer Reason) (x : Bool). given_by (verdict_of a) x) (ap (λ (k : Judgement). k.answer) (sym e) ∙ q) stays

      after : (step_desk (some d) raw).desk ≡ desk_after j
      after = ap (λ r. r.desk) (reply-is lean same) ∙ ap desk_after (sym e)

      go : (a : Answer Reason) → j.answer ≡ a → is_refusal_lem a ≡ false → Called (ByStep raw) b (desk_code (given_by (told j.answer) lean)) b'
      go Allowed q r =
          subst (λ (a : Answer Reason). Called (ByStep raw) b (desk_code (given_by (told a) lean)) b') (sym q)
          (called-step (ap₂ (λ x y. x && y) ok.0 ok.1) (given_by (verdict_of Allowed) lean) (desk_after j) b' (given Allowed q) after leaves)
      go (Violated n) q r =
          subst (λ (a : Answer Reason). Called (ByStep raw) b (desk_code (given_by (told a) lean)) b') (sym q)
          (called-step (ap₂ (λ x y. x && y) ok.0 ok.1) (given_by (verdict_of (Violated n)) lean) (desk_after j) b' (given (Violated n) q) after leaves)
      go (Refused n) q r = false-true (sym r)
