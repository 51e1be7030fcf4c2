-- Moving by two states: it is additive, so that where it agrees with eight rows at each state, it agrees with them at each set.
use Prim.Native.Nat.{ℕ, zero, suc, ◌+◌, ◌*◌, ◌/◌, ◌%◌, ◌^◌, ◌<◌, min, max}
use mathlib.Core.Path.{◌≡◌, refl, sym, ap, ap₂, ◌∙◌}
use mathlib.Core.Bool.{Bool, true, false, cond}
use mathlib.Core.List.{List}
use native.Mathlib.Nat.{zero-add}
use native.Mathlib.Omega.{arith}
use borrow.Author.Tests.{eq-eqb, ne_eqb, eqb-true, eqb-false}
use lib.Arith.{bin_ind, digits_mod}
use lib.Bits.{bit_and, bit_or, and_step, or_step, and_shr, or_shr, or_self, or_zero_l, or_zero_r}
use lib.Dec.{eqb, ltb}
use lib.ListN.{length, get_or}
use Rattle.usage.specs.Limits.{states}
use Rattle.usage.proofs.TableLaws.{is-from}
use Rattle.automaton.specs.Mask.{has, union}
use Rattle.automaton.specs.Move.{move_by}
use Rattle.automaton.proofs.MaskLaws.{left_le, right_le, all-below, all-below-at}
use Rattle.automaton.specs.Code.{stay_rows_lem}
use Rattle.automaton.proofs.RowLaws.{union-ext, stay-moves}
use Rattle.monitor_sets.proofs.LaneLaws.{shuffle}
use Rattle.monitor_pairs.specs.Pairs.{pair_places}
use Rattle.monitor_pairs.specs.Code.{row_where, two_moved, run_moved, run_by_two}
use Rattle.monitor_pairs.proofs.RunLaws.{same_from}

-- ── What is in both ──

or-low : (a b : ℕ) → bit_or a b % 2 ≡ max (a % 2) (b % 2)
or-low a b = ap (λ (n : ℕ). n % 2) (or_step a b) ∙ digits_mod (bit_or (a / 2) (b / 2)) (omega arith)

and_low : (a b : ℕ) → bit_and a b % 2 ≡ min (a % 2) (b % 2)
and_low a b = ap (λ (n : ℕ). n % 2) (and_step a b) ∙ digits_mod (bit_and (a / 2) (b / 2)) (omega arith)

digit : (u v w : ℕ) → min (max u v) w ≡ max (min u w) (min v w)
digit u v w = omega arith

pub and-or : (a b c : ℕ) → bit_and (bit_or a b) c ≡ bit_or (bit_and a c) (bit_and b c)
and-or = bin_ind (λ a. (b c : ℕ) → bit_and (bit_or a b) c ≡ bit_or (bit_and a c) (bit_and b c)) (λ b c. refl) (λ a ih b c.
    and_step (bit_or a b) c
    ∙ ap₂ (λ (u v : ℕ). bit_and u (c / 2) * 2 + min v (c % 2)) (or_shr a b 1) (or-low a b)
    ∙ ap₂ (λ (u v : ℕ). u * 2 + v) (ih (b / 2) (c / 2)) (digit (a % 2) (b % 2) (c % 2))
    ∙ sym (or_step (bit_and a c) (bit_and b c)
    ∙ ap₂ (λ (u v : ℕ). u * 2 + v) (ap₂ (λ (u v : ℕ). bit_or u v) (and_shr a c 1) (and_shr b c 1))
    (ap₂ (λ (u v : ℕ). max u v) (and_low a c) (and_low b c))))

-- ── Two states ──

where-or : (a b m row : ℕ) → row_where (bit_or a b) m row ≡ bit_or (row_where a m row) (row_where b m row)
unfolding row_where
where-or a b m row = ap (λ (u : ℕ). cond (eqb u 0) 0 row) (and-or a b m) ∙ go (eqb (bit_and a m) 0) refl (eqb (bit_and b m) 0) refl
  where
    x : ℕ
    x = bit_and a m

    y : ℕ
    y = bit_and b m

    some : (bit_or x y ≡ 0 → ⊥) → cond (eqb (bit_or x y) 0) 0 row ≡ row
    some d = ap (λ (t : Bool). cond t 0 row) (ne_eqb (bit_or x y) 0 d)

    go : (s : Bool) → eqb x 0 ≡ s → (t : Bool) → eqb y 0 ≡ t → cond (eqb (bit_or x y) 0) 0 row ≡ bit_or (cond s 0 row) (cond t 0 row)
    go true e true f =
        ap (λ (t : Bool). cond t 0 row) (eq-eqb (bit_or x y) 0 (ap₂ (λ (u v : ℕ). bit_or u v) (eqb-true x 0 e) (eqb-true y 0 f)
        ∙ or_self 0))
        ∙ sym (or_self 0)
    go true e false f = some (λ z. eqb-false y 0 f (omega (arith, right_le x y))) ∙ sym (or_zero_l row)
    go false e true f = some (λ z. eqb-false x 0 e (omega (arith, left_le x y))) ∙ sym (or_zero_r row)
    go false e false f = some (λ z. eqb-false x 0 e (omega (arith, left_le x y))) ∙ sym (or_self row)

module _ (keep low lows high highs : ℕ) where
  abbrev two : ℕ → ℕ
  two = two_moved keep low lows high highs

  two_none : two 0 ≡ 0
  unfolding two_moved row_where
  two_none = refl

  two-or : (a b : ℕ) → two (bit_or a b) ≡ bit_or (two a) (two b)
  unfolding two_moved
  two-or a b =
      ap₂ (λ (u v : ℕ). bit_or u v) (ap₂ (λ (u v : ℕ). bit_or u v) (and-or a b keep) (where-or a b low lows)) (where-or a b high highs)
      ∙ ap (λ (u : ℕ). bit_or u (bit_or (row_where a high highs) (row_where b high highs)))
      (shuffle (bit_and a keep) (bit_and b keep) (row_where a low lows) (row_where b low lows))
      ∙ shuffle (bit_or (bit_and a keep) (row_where a low lows)) (bit_or (bit_and b keep) (row_where b low lows)) (row_where a high highs)
      (row_where b high highs)

  two-union : (n : ℕ) (f : ℕ → ℕ) → two (union n f) ≡ union n (λ i. two (f i))
  unfolding union
  two-union zero f = two_none
  two-union (suc n) f = two-or (union n f) (f n) ∙ ap (λ (u : ℕ). bit_or u (two (f n))) (two-union n f)

  -- each state's bit
  bit_test : all-below states (λ q. eqb (get_or stay_rows_lem (0 + q) 0) (2 ^ q)) ≡ true
  unfolding all-below
  bit_test = refl

  pub two-moves : (rows : List ℕ) → ((q : ℕ) → q < states → two (2 ^ q) ≡ get_or rows q 0) → (m : ℕ) → m < 256 → two m ≡ move_by rows 0 m
  unfolding move_by
  two-moves rows h m l =
      ap two (sym (stay-moves m l))
      ∙ two-union states (λ q. cond (has m q) (get_or stay_rows_lem (0 + q) 0) 0)
      ∙ union-ext states (λ q. two (cond (has m q) (get_or stay_rows_lem (0 + q) 0) 0)) (λ q. cond (has m q) (get_or rows (0 + q) 0) 0)
      (λ q k. each q k (has m q))
    where
      each : (q : ℕ) → q < states → (b : Bool) → two (cond b (get_or stay_rows_lem (0 + q) 0) 0) ≡ cond b (get_or rows (0 + q) 0) 0
      each q k true =
          ap two (eqb-true (get_or stay_rows_lem (0 + q) 0) (2 ^ q) (all-below-at states (λ q. eqb (get_or stay_rows_lem (0 + q) 0) (2 ^ q)) bit_test
          q k))
          ∙ h q k ∙ ap (λ (i : ℕ). get_or rows i 0) (sym (zero-add q))
      each q k false = two_none

  pub two_run : (rows : List ℕ) → ((q : ℕ) → q < states → two (2 ^ q) ≡ get_or rows q 0) → (n : ℕ) (sets : List ℕ)
      → ((k : ℕ) → get_or sets k 0 < 256) → run_by_two keep low lows high highs n sets ≡ run_moved rows n sets
  unfolding run_by_two run_moved
  two_run rows h n sets small =
      same_from (λ k. cond (ltb k n) (two (get_or sets k 0)) (get_or sets k 0)) (λ k. cond (ltb k n) (move_by rows 0 (get_or sets k 0)) (get_or
      sets k 0))
      pair_places (λ k b. ap (λ (u : ℕ). cond (ltb k n) u (get_or sets k 0)) (two-moves rows h (get_or sets k 0) (small k)))

-- ── Rows that leave every state where it is ──

pub stays-run : (rows : List ℕ) → ((m : ℕ) → m < 256 → move_by rows 0 m ≡ m) → (n : ℕ) (sets : List ℕ) → length sets ≡ pair_places
    → ((k : ℕ) → get_or sets k 0 < 256) → sets ≡ run_moved rows n sets
unfolding run_moved
stays-run rows h n sets e small =
    is-from (λ k. cond (ltb k n) (move_by rows 0 (get_or sets k 0)) (get_or sets k 0)) 0 pair_places sets e
    (λ k b. sym (either (ltb k n) (h (get_or sets k 0) (small k))))
  where
    either : {u v : ℕ} (t : Bool) → u ≡ v → cond t u v ≡ v
    either true q = q
    either false q = refl
