-- What is not closed, after an opening and after a closing: the counts, their order, and its share of 42.
use Prim.Native.Nat.{ℕ, suc, ◌+◌, ◌-◌, ◌<◌}
use mathlib.Core.Path.{◌≡◌, refl, sym, ap, ap₂, ◌∙◌, subst}
use mathlib.Core.Bool.{Bool, true, false}
use mathlib.Core.List.{List, ◌∷◌}
use native.Mathlib.Omega.{arith}
use lib.Dec.{eqb}
use lib.ListN.{get_or, set, length-set}
use lib.Seq.{get_or-set_same, get_or-set_other}
use borrow.Author.Tests.{eq-eqb, ne_eqb, eqb-true, eqb-false}
use Rattle.usage.specs.Limits.{policies, most_unclosed}
use Rattle.usage.specs.Past.{Step, opening, closing, Past, add_if, count, openings, closings, without, open_stack, Open}
use Rattle.usage.proofs.StackLaws.{without-first}
use Rattle.monitor_sets.proofs.OrderLaws.{OrderOk, order-parts, parts-order, order-some, opened-ok, closed-ok, stack-more, stack_top}
use Rattle.monitor_state.specs.declared.Unclosed.{Unclosed}
use Rattle.monitor_state.specs.Unclosed.{openings_of, last_opened, stack_in, unclosed_ok, with_opening, with_closing}
use Rattle.monitor_state.specs.Represents.{CountsOpenings}

pub unclosed-parts : (u : Unclosed) → unclosed_ok u ≡ true → OrderOk u.depth u.order u.counts
unfolding unclosed_ok
unclosed-parts u w = order-parts u.depth u.order u.counts w

-- after a step that opens and closes nothing
pub same-openings : {past : Past} {u : Unclosed} {step : Step} → ((p : ℕ) → closings p (step ∷ past) ≡ closings p past)
    → ((p : ℕ) → openings p (step ∷ past) ≡ openings p past) → open_stack (step ∷ past) ≡ open_stack past
    → CountsOpenings past u → CountsOpenings (step ∷ past) u
same-openings {u = u} shut open-too stack C = record {
  well = C.well;
  open_count = λ p. ap (λ (n : ℕ). n + openings_of u p) (shut p) ∙ C.open_count p ∙ sym (open-too p);
  stack = C.stack ∙ sym stack;
  counts_length = C.counts_length;
  order_length = C.order_length;
}

module _ (past : Past) (u : Unclosed) (C : CountsOpenings past u) where
  -- a policy is open where its count of unclosed openings is not 0
  pub open-count-pos : (p : ℕ) → Open p past → 0 < openings_of u p
  open-count-pos p o = omega (arith, o, C.open_count p)

  pub count-pos-open : (p : ℕ) → 0 < openings_of u p → Open p past
  count-pos-open p o = omega (arith, o, C.open_count p)

  in_order : OrderOk u.depth u.order u.counts
  in_order = unclosed-parts u C.well

  -- one count is another
  counted : (p n : ℕ) (step : Step) → p < policies → closings p (step ∷ past) + n ≡ openings p (step ∷ past)
      → ((p' : ℕ) → (p ≡ p' → ⊥) → (closings p' (step ∷ past) ≡ closings p' past) × (openings p' (step ∷ past) ≡ openings p' past))
      → (p' : ℕ) → closings p' (step ∷ past) + get_or (set u.counts p n) p' 0 ≡ openings p' (step ∷ past)
  counted p n step l own other p' = at (eqb p p') refl
    where
      at : (b : Bool) → eqb p p' ≡ b → closings p' (step ∷ past) + get_or (set u.counts p n) p' 0 ≡ openings p' (step ∷ past)
      at true e =
          subst (λ (k : ℕ). closings k (step ∷ past) + get_or (set u.counts p n) k 0 ≡ openings k (step ∷ past)) (eqb-true p p' e)
          (ap (λ (k : ℕ). closings p (step ∷ past) + k)
          (get_or-set_same u.counts p n 0 (subst (λ (k : ℕ). p < k) (sym C.counts_length) l)) ∙ own)
      at false e =
          let o = other p' (eqb-false p p' e) in
          ap₂ (λ (c k : ℕ). c + k) o.0 (get_or-set_other u.counts p p' n 0 (λ q. eqb-false p p' e (sym q))) ∙ C.open_count p'
          ∙ sym o.1

  pub opening-counts : (p : ℕ) → p < policies → u.depth < most_unclosed → CountsOpenings (opening p ∷ past) (with_opening u p)
  unfolding with_opening unclosed_ok count open_stack
  opening-counts p l room = record {
    well = parts-order (u.depth + 1) (set u.order u.depth p) (set u.counts p (openings_of u p + 1))
        (opened-ok u.depth u.order u.counts p l C.counts_length in_order C.order_length room);
    open_count = counted p (openings_of u p + 1) (opening p) l (own ∙ sym (ap (λ (b : Bool). add_if b (openings p past)) (eq-eqb p p refl)))
        (λ p' h. (refl, ap (λ (b : Bool). add_if b (openings p' past)) (ne_eqb p p' h)));
    stack = stack-more u.depth u.order p (omega (arith, C.order_length)) ∙ ap (λ (l : List ℕ). p ∷ l) C.stack;
    counts_length = length-set u.counts p (openings_of u p + 1) ∙ C.counts_length;
    order_length = length-set u.order u.depth p ∙ C.order_length;
  }
    where
      own : closings p past + (openings_of u p + 1) ≡ suc (openings p past)
      own = omega (arith, C.open_count p)

  pub closing-counts : (p : ℕ) → p < policies → 0 < openings_of u p → last_opened u ≡ p → CountsOpenings (closing p ∷ past) (with_closing u p)
  unfolding with_closing unclosed_ok count open_stack
  closing-counts p l o last = record {
    well = parts-order (u.depth - 1) u.order (set u.counts p (openings_of u p - 1))
        (closed-ok u.depth u.order u.counts p l C.counts_length in_order o last);
    open_count = counted p (openings_of u p - 1) (closing p) l
        (ap (λ (b : Bool). add_if b (closings p past) + (openings_of u p - 1)) (eq-eqb p p refl) ∙ own)
        (λ p' h. (ap (λ (b : Bool). add_if b (closings p' past)) (ne_eqb p p' h), refl));
    stack = sym (ap (without p) (sym C.stack ∙ stack_top u.depth u.order some last) ∙ without-first p (stack_in (u.depth - 1) u.order));
    counts_length = length-set u.counts p (openings_of u p - 1) ∙ C.counts_length;
    order_length = C.order_length;
  }
    where
      some : 0 < u.depth
      some = order-some u.depth u.order u.counts in_order p l o

      own : suc (closings p past) + (openings_of u p - 1) ≡ openings p past
      own = omega (arith, C.open_count p)
