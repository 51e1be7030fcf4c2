-- The order of the unclosed openings, entry by entry.
use Prim.Native.Nat.{ℕ, zero, suc, ◌+◌, ◌-◌, ◌<◌, ◌≤◌}
use mathlib.Core.Path.{◌≡◌, refl, sym, ap, ap₂, ◌∙◌, subst}
use mathlib.Core.Bool.{Bool, true, false, ◌&&◌}
use mathlib.Core.List.{List, ◌∷◌}
use native.Mathlib.Numerals.{add-one}
use native.Mathlib.Omega.{arith}
use lib.Dec.{eqb, leb}
use lib.ListN.{length, get_or, set, take, replicate, get_or-replicate}
use Rattle.std.proofs.lemmas.List.{ext_get_or}
use lib.Seq.{length-take-le, get_or-take, get_or-set_same, get_or-set_other}
use borrow.Author.Tests.{eqb-true, eqb-false, eq-eqb, leb-true, le-leb, le-ltb, lt-ltb}
use Rattle.usage.specs.Limits.{policies, most_unclosed}
use Rattle.usage.specs.Past.{add_if, occurrences}
use Rattle.usage.specs.Tests.{every}
use Rattle.usage.proofs.Logic.{by_cases, not-both, and_left, and_right, and_both, both_ways, last-or-lower}
use Rattle.monitor_sets.specs.Order.{stack_in, is_policy, agree_below, order_ok_lem}

-- ── Entries ──

-- a test that all entries pass is passed by each
pub entry-passes : (test : ℕ → Bool) (n : ℕ) (order : List ℕ) → every test (stack_in n order) ≡ true → (i : ℕ) → i < n
    → test (get_or order i 0) ≡ true
unfolding stack_in every
entry-passes test zero order e i l = absurd (omega arith)
entry-passes test (suc n) order e i l = by_cases (last-or-lower i n l)
    (λ h. subst (λ (k : ℕ). test (get_or order k 0) ≡ true) (sym h) (and_left (test (get_or order n 0)) _ e))
    (λ h. entry-passes test n order (and_right (test (get_or order n 0)) (every test (stack_in n order)) e) i h)

-- an entry that fails makes the whole fail
pub entry-fails : (n : ℕ) (order : List ℕ) (i : ℕ) → i < n → policies ≤ get_or order i 0 → every is_policy (stack_in n order) ≡ false
entry-fails n order i l h = go (every is_policy (stack_in n order)) refl
  where
    go : (b : Bool) → every is_policy (stack_in n order) ≡ b → b ≡ false
    go true e = not-both (is_policy (get_or order i 0)) (entry-passes is_policy n order e i l) (le-ltb (get_or order i 0) policies h)
    go false e = refl

pub more-pass : (n : ℕ) (order : List ℕ) → every is_policy (stack_in n order) ≡ true → get_or order n 0 < policies
    → every is_policy (stack_in (n + 1) order) ≡ true
unfolding stack_in every
more-pass n order e h = rw (add-one n) (and_both (is_policy (get_or order n 0)) _ (lt-ltb (get_or order n 0) policies h) e)

-- ── Counts ──

add_most : (b : Bool) (m n : ℕ) → m ≤ n → add_if b m ≤ suc n
add_most true m n h = omega arith
add_most false m n h = omega arith

pub stack-most : (p n : ℕ) (order : List ℕ) → occurrences p (stack_in n order) ≤ n
unfolding stack_in occurrences
stack-most p zero order = omega arith
stack-most p (suc n) order = add_most (eqb (get_or order n 0) p) (occurrences p (stack_in n order)) n (stack-most p n order)

pub length-stack : (n : ℕ) (order : List ℕ) → length (stack_in n order) ≡ n
unfolding stack_in
length-stack zero order = refl
length-stack (suc n) order = ap suc (length-stack n order)

-- the counts c of the first n entries
abbrev pub Counts : List ℕ → ℕ → List ℕ → Type 0
Counts order n c = (p : ℕ) → p < policies → get_or c p 0 ≡ occurrences p (stack_in n order)

pub counts-none : (order : List ℕ) (c : List ℕ) → c ≡ replicate policies 0 → Counts order 0 c
unfolding stack_in occurrences
counts-none order c e p l = ap (λ (l : List ℕ). get_or l p 0) e ∙ get_or-replicate policies p 0 0 l

-- one entry more
pub counts-more : (order : List ℕ) (n : ℕ) (c : List ℕ) → length c ≡ policies → get_or order n 0 < policies → Counts order n c
    → Counts order (n + 1) (set c (get_or order n 0) (get_or c (get_or order n 0) 0 + 1))
unfolding stack_in occurrences
counts-more order n c k h counts p l = go (eqb (get_or order n 0) p) refl
  where
    s : ℕ
    s = get_or order n 0

    next : occurrences p (stack_in (n + 1) order) ≡ add_if (eqb s p) (occurrences p (stack_in n order))
    next = rw (add-one n)

    go : (b : Bool) → eqb s p ≡ b → get_or (set c s (get_or c s 0 + 1)) p 0 ≡ occurrences p (stack_in (n + 1) order)
    go true e =
        subst (λ (q : ℕ). get_or (set c s (get_or c s 0 + 1)) q 0 ≡ suc (occurrences q (stack_in n order))) (eqb-true s p e)
        (get_or-set_same c s (get_or c s 0 + 1) 0 (subst (λ (m : ℕ). s < m) (sym k) h) ∙ add-one (get_or c s 0) ∙ ap suc (counts s h))
        ∙ sym (next ∙ ap (λ (b : Bool). add_if b (occurrences p (stack_in n order))) e)
    go false e =
        get_or-set_other c s p (get_or c s 0 + 1) 0 (λ q. eqb-false s p e (sym q)) ∙ counts p l
        ∙ sym (next ∙ ap (λ (b : Bool). add_if b (occurrences p (stack_in n order))) e)

-- ── Agreeing ──

pub agree-below : (stack unclosed : List ℕ) (n : ℕ) → ((p : ℕ) → p < n → occurrences p stack ≡ get_or unclosed p 0)
    → agree_below stack unclosed n ≡ true
unfolding agree_below
agree-below stack unclosed zero h = refl
agree-below stack unclosed (suc n) h =
    and_both (eqb (occurrences n stack) (get_or unclosed n 0)) _ (eq-eqb _ _ (h n (omega arith)))
    (agree-below stack unclosed n (λ p l. h p (omega arith)))

pub below-agree : (stack unclosed : List ℕ) (n : ℕ) → agree_below stack unclosed n ≡ true → (p : ℕ) → p < n
    → occurrences p stack ≡ get_or unclosed p 0
unfolding agree_below
below-agree stack unclosed zero e p l = absurd (omega arith)
below-agree stack unclosed (suc n) e p l =
    let here : Bool = eqb (occurrences n stack) (get_or unclosed n 0) in
    by_cases (last-or-lower p n l)
    (λ h. subst (λ (k : ℕ). occurrences k stack ≡ get_or unclosed k 0) (sym h) (eqb-true _ _ (and_left here _ e)))
    (λ h. below-agree stack unclosed n (and_right here (agree_below stack unclosed n) e) p h)

-- an answer that is true exactly where each policy stands in the stack as often as its count says
pub agrees : (stack unclosed : List ℕ) (r : Bool) → (((p : ℕ) → p < policies → occurrences p stack ≡ get_or unclosed p 0) → r ≡ true)
    → (r ≡ true → (p : ℕ) → p < policies → occurrences p stack ≡ get_or unclosed p 0) → r ≡ agree_below stack unclosed policies
agrees stack unclosed r to back =
    both_ways r (agree_below stack unclosed policies) (λ e. agree-below stack unclosed policies (back e))
    (λ e. to (below-agree stack unclosed policies e))

-- the order lent as a part of its array
pub stack-part : (n depth : ℕ) (order : List ℕ) → n ≤ depth → stack_in n (take depth order) ≡ stack_in n order
unfolding stack_in
stack-part zero depth order h = refl
stack-part (suc n) depth order h =
    ap₂ (λ (p : ℕ) (l : List ℕ). p ∷ l) (get_or-take depth order n 0 (omega arith)) (stack-part n depth order (omega arith))

pub stack-front : (depth : ℕ) (order : List ℕ) → depth ≤ length order
    → stack_in (length (take depth order)) (take depth order) ≡ stack_in depth order
stack-front depth order h = rw (length-take-le depth order h) (stack-part depth depth order (omega arith))

-- two lists of counts are the same exactly where each count is
pub counts-same : (c d : List ℕ) → length c ≡ policies → length d ≡ policies → ((p : ℕ) → p < policies → get_or c p 0 ≡ get_or d p 0)
    → c ≡ d
counts-same c d n m h = ext_get_or 0 c d (n ∙ sym m) (λ i l. h i (omega arith))

-- ── An opening and a closing ──

-- what stands below a place does not change with it
pub stack-kept : (n : ℕ) (order : List ℕ) (i x : ℕ) → n ≤ i → stack_in n (set order i x) ≡ stack_in n order
unfolding stack_in
stack-kept zero order i x h = refl
stack-kept (suc n) order i x h =
    ap₂ (λ (p : ℕ) (l : List ℕ). p ∷ l) (get_or-set_other order i n x 0 (λ e. omega arith)) (stack-kept n order i x (omega arith))

-- an opening goes in front
pub stack-more : (n : ℕ) (order : List ℕ) (p : ℕ) → n < length order → stack_in (n + 1) (set order n p) ≡ p ∷ stack_in n order
unfolding stack_in
stack-more n order p h =
    rw (add-one n) (ap₂ (λ (q : ℕ) (l : List ℕ). q ∷ l) (get_or-set_same order n p 0 h) (stack-kept n order n p (omega arith)))

-- the newest is that of the last place
pub stack_top : (n : ℕ) (order : List ℕ) {p : ℕ} → 0 < n → get_or order (n - 1) 0 ≡ p → stack_in n order ≡ p ∷ stack_in (n - 1) order
unfolding stack_in
stack_top n order h e =
    let k : n ≡ suc (n - 1) = omega arith in
    ap (λ (m : ℕ). stack_in m order) k ∙ ap (λ (q : ℕ). q ∷ stack_in (n - 1) order) e

-- ── The parts of `order_ok_lem` ──

pub record OrderOk (depth : ℕ) (order unclosed : List ℕ) : Type 0 where
  pub few : depth ≤ most_unclosed
  pub each : every is_policy (stack_in depth order) ≡ true
  pub agree : (p : ℕ) → p < policies → occurrences p (stack_in depth order) ≡ get_or unclosed p 0

module _ (depth : ℕ) (order unclosed : List ℕ) where
  pub order-parts : order_ok_lem depth order unclosed ≡ true → OrderOk depth order unclosed
  unfolding order_ok_lem
  order-parts h =
      let e : Bool = every is_policy (stack_in depth order) in
      let a : Bool = agree_below (stack_in depth order) unclosed policies in
      let t : (e && a) ≡ true = and_right (leb depth most_unclosed) (e && a) h in
      record {
        few = leb-true depth most_unclosed (and_left (leb depth most_unclosed) (e && a) h);
        each = and_left e a t;
        agree = below-agree (stack_in depth order) unclosed policies (and_right e a t);
      }

  pub parts-order : OrderOk depth order unclosed → order_ok_lem depth order unclosed ≡ true
  unfolding order_ok_lem
  parts-order w =
      and_both (leb depth most_unclosed) _ (le-leb depth most_unclosed w.few)
      (and_both (every is_policy (stack_in depth order)) _ w.each (agree-below (stack_in depth order) unclosed policies w.agree))

  -- no policy is open more often than the order is long
  pub count-few : OrderOk depth order unclosed → (p : ℕ) → p < policies → get_or unclosed p 0 ≤ depth
  count-few w p l = omega (arith, w.agree p l, stack-most p depth order)

  -- where a policy is open something is in the order
  pub order-some : OrderOk depth order unclosed → (p : ℕ) → p < policies → 0 < get_or unclosed p 0 → 0 < depth
  order-some w p l h = omega (arith, count-few w p l)

-- ── The order after an opening and after a closing ──

-- the counts of a stack with p in front
front-agrees : (stack unclosed : List ℕ) (p n m : ℕ) → p < length unclosed → m ≡ suc n → occurrences p stack ≡ n
    → ((q : ℕ) → q < policies → occurrences q stack ≡ get_or unclosed q 0)
    → (q : ℕ) → q < policies → occurrences q (p ∷ stack) ≡ get_or (set unclosed p m) q 0
unfolding occurrences
front-agrees stack unclosed p n m l e f h q k = go (eqb p q) refl
  where
    go : (b : Bool) → eqb p q ≡ b → add_if b (occurrences q stack) ≡ get_or (set unclosed p m) q 0
    go true z =
        subst (λ (r : ℕ). suc (occurrences r stack) ≡ get_or (set unclosed p m) r 0) (eqb-true p q z)
        (ap suc f ∙ sym (get_or-set_same unclosed p m 0 l ∙ e))
    go false z = h q k ∙ sym (get_or-set_other unclosed p q m 0 (λ r. eqb-false p q z (sym r)))

-- the counts of a stack whose first is taken away
rest-agrees : (stack unclosed : List ℕ) (p m : ℕ) → p < length unclosed → suc m ≡ get_or unclosed p 0 → p < policies
    → ((q : ℕ) → q < policies → occurrences q (p ∷ stack) ≡ get_or unclosed q 0)
    → (q : ℕ) → q < policies → occurrences q stack ≡ get_or (set unclosed p m) q 0
unfolding occurrences
rest-agrees stack unclosed p m l e i h q k = go (eqb p q) refl (h q k)
  where
    first : suc (occurrences p stack) ≡ suc m
    first = sym (ap (λ (b : Bool). add_if b (occurrences p stack)) (eq-eqb p p refl)) ∙ h p i ∙ sym e

    go : (b : Bool) → eqb p q ≡ b → add_if b (occurrences q stack) ≡ get_or unclosed q 0 → occurrences q stack ≡ get_or (set unclosed p m) q 0
    go true z w =
        subst (λ (r : ℕ). occurrences r stack ≡ get_or (set unclosed p m) r 0) (eqb-true p q z)
        (let s : occurrences p stack ≡ m = omega (arith, first) in s ∙ sym (get_or-set_same unclosed p m 0 l))
    go false z w = w ∙ sym (get_or-set_other unclosed p q m 0 (λ r. eqb-false p q z (sym r)))

module _ (depth : ℕ) (order unclosed : List ℕ) (p : ℕ) (policy : p < policies) (counts : length unclosed ≡ policies)
    (w : OrderOk depth order unclosed) where
  here : p < length unclosed
  here = subst (λ (n : ℕ). p < n) (sym counts) policy

  pub opened-ok : length order ≡ most_unclosed → depth < most_unclosed
      → OrderOk (depth + 1) (set order depth p) (set unclosed p (get_or unclosed p 0 + 1))
  unfolding every
  opened-ok long room =
      let s : stack_in (depth + 1) (set order depth p) ≡ p ∷ stack_in depth order = stack-more depth order p (omega arith) in
      record {
        few = omega arith;
        each = subst (λ (l : List ℕ). every is_policy l ≡ true) (sym s) (and_both (is_policy p) _ (lt-ltb p policies policy) w.each);
        agree = λ q k. ap (occurrences q) s
            ∙ front-agrees (stack_in depth order) unclosed p (get_or unclosed p 0) (get_or unclosed p 0 + 1) here (add-one (get_or unclosed p 0))
            (w.agree p policy) w.agree q k;
      }

  pub closed-ok : 0 < get_or unclosed p 0 → get_or order (depth - 1) 0 ≡ p
      → OrderOk (depth - 1) order (set unclosed p (get_or unclosed p 0 - 1))
  unfolding every
  closed-ok left last =
      let s : stack_in depth order ≡ p ∷ stack_in (depth - 1) order =
      stack_top depth order (order-some depth order unclosed w p policy left) last in
      record {
        few = let f = w.few in omega arith;
        each = and_right (is_policy p) _ (subst (λ (l : List ℕ). every is_policy l ≡ true) s w.each);
        agree = rest-agrees (stack_in (depth - 1) order) unclosed p (get_or unclosed p 0 - 1) here (omega arith) policy
            (λ q k. sym (ap (occurrences q) s) ∙ w.agree q k);
      }
