-- The laws of the list of created resources, for loops over an array that holds it in front.
use Prim.Native.Nat.{ℕ, zero, suc, ◌+◌, ◌-◌, ◌%◌, ◌<◌, ◌≤◌, min}
use mathlib.Core.Path.{◌≡◌, refl, sym, ap, subst, ◌∙◌}
use mathlib.Core.Bool.{Bool, true, false, not, ◌&&◌, ◌||◌}
use mathlib.Core.List.{List, [], ◌∷◌}
use native.Mathlib.Nat.{add-zero, zero-add}
use native.Mathlib.Numerals.{add-one}
use native.Mathlib.Omega.{arith}
use borrow.Author.Tests.{eq-eqb, ne_eqb, lt-ltb, le-ltb, le-leb, lt-leb, ltb-true, ltb-false, leb-true, leb-false, eqb-true, eqb-false}
use lib.ListN.{length, take, drop, get_or, set, drop_of_length-le, length-drop}
use lib.Dec.{eqb, leb, ltb}
use lib.Seq.{take_all, drop-cons, get_or-set_same, get_or-set_other}
use Rattle.usage.specs.Limits.{statics, resources, most_created}
use Rattle.usage.specs.Tests.{every}
use Rattle.usage.proofs.Logic.{and-false, and_left, and_right, not-both, by_cases, last-or-lower}
use Rattle.monitor_sets.specs.Instances.{unseen}
use Rattle.monitor_sets.specs.Created.{listed, distinct, dynamic, place_from}
use Rattle.monitor_sets.specs.Code.{rises, endings}

pub or-false : (a b : Bool) → b ≡ false → (a || b) ≡ a
or-false true b e = refl
or-false false b e = e

-- the first n numbers of an array, where n is above its length too
pub take-most : (l : List ℕ) (count n : ℕ) → length l ≡ most_created → n ≡ min count most_created → take n l ≡ take count l
take-most l count n e m = go (ltb count most_created) refl
  where
    go : (b : Bool) → ltb count most_created ≡ b → take n l ≡ take count l
    go true q = let h = ltb-true count most_created q in let k : n ≡ count = omega arith in rw k
    go false q = let h = ltb-false count most_created q in take_all n l (omega arith) ∙ sym (take_all count l (omega arith))

-- ── Loops ──

-- the numbers from number i on
module _ (l : List ℕ) where
  abbrev n : ℕ
  n = length l

  rest : (i : ℕ) → i < n → drop i l ≡ get_or l i 0 ∷ drop (i + 1) l
  rest i h = rw (drop-cons l i 0 h, add-one i)

  rest_end : (i : ℕ) → n ≤ i → drop i l ≡ []
  rest_end i h = drop_of_length-le l h

  -- those behind number i - 1, as a part
  pub behind-part : (i : ℕ) → 0 < i → take (n - (i - 1 + 1)) (drop (i - 1 + 1) l) ≡ drop i l
  behind-part i h =
      let k : i - 1 + 1 ≡ i = omega arith in
      rw k (take_all (n - i) (drop i l) (omega (arith, length-drop i l)))

  -- a search for x: found at i, or one further
  pub place_here : (x m i : ℕ) → i < n → get_or l i 0 ≡ x → place_from x m (drop i l) ≡ m
  unfolding place_from
  place_here x m i h e = rw (rest i h) (simp (eq-eqb _ _ e))

  pub place-more : (x m i : ℕ) → i < n → (get_or l i 0 ≡ x → ⊥)
      → place_from x (m + i) (drop i l) ≡ place_from x (m + (i + 1)) (drop (i + 1) l)
  unfolding place_from
  place-more x m i h e =
      let k : suc (m + i) ≡ m + (i + 1) = omega arith in
      rw (rest i h) (simp (ne_eqb _ _ e, k))

  pub place_end : (x m i : ℕ) → n ≤ i → place_from x m (drop i l) ≡ unseen
  unfolding place_from
  place_end x m i h = rw (rest_end i h)

  pub listed-end : (x i : ℕ) → n ≤ i → listed x (drop i l) ≡ false
  unfolding listed
  listed-end x i h = rw (rest_end i h)

  pub listed_here : (x i : ℕ) → i < n → get_or l i 0 ≡ x → listed x (drop i l) ≡ true
  unfolding listed
  listed_here x i h e = rw (rest i h) (simp (eq-eqb _ _ e))

  pub listed_more : (x i : ℕ) → i < n → (get_or l i 0 ≡ x → ⊥) → listed x (drop i l) ≡ listed x (drop (i + 1) l)
  unfolding listed
  listed_more x i h e = rw (rest i h) (simp (ne_eqb _ _ e))

  -- what is asked of the created resources, of those from number i on
  abbrev sound : ℕ → Bool
  sound i = every dynamic (drop i l) && distinct (drop i l)

  pub sound-end : (i : ℕ) → n ≤ i → sound i ≡ true
  unfolding every distinct
  sound-end i h = rw (rest_end i h)

  module _ (i : ℕ) (h : i < n) where
    pub sound-low : get_or l i 0 < statics → sound i ≡ false
    unfolding every
    sound-low a = rw (rest i h) (simp (lt-leb _ _ a))

    module _ (a : statics ≤ get_or l i 0) where
      pub sound-high : resources ≤ get_or l i 0 → sound i ≡ false
      unfolding every
      sound-high b = rw (rest i h) (simp (le-leb _ _ a, le-ltb _ _ b))

      module _ (b : get_or l i 0 < resources) where
        pub sound-twice : listed (get_or l i 0) (drop (i + 1) l) ≡ true → sound i ≡ false
        unfolding distinct
        sound-twice e = and-false (every dynamic (drop i l)) (distinct (drop i l)) (rw (rest i h) (simp e))

        pub sound_more : listed (get_or l i 0) (drop (i + 1) l) ≡ false → sound i ≡ sound (i + 1)
        unfolding every distinct
        sound_more e = rw (rest i h) (simp (le-leb _ _ a, lt-ltb _ _ b, e))

  -- what fails from number i on fails from the first on
  sound-one : (i : ℕ) → i < n → sound (i + 1) ≡ false → sound i ≡ false
  unfolding every distinct
  sound-one i h e = rw (rest i h) (shift (dynamic (get_or l i 0)) (every dynamic (drop (i + 1) l))
      (not (listed (get_or l i 0) (drop (i + 1) l))) (distinct (drop (i + 1) l)) e)
    where
      shift : (a b c d : Bool) → (b && d) ≡ false → ((a && b) && (c && d)) ≡ false
      shift false b c d q = refl
      shift true false c d q = refl
      shift true true false d q = refl
      shift true true true d q = q

  pub sound-before : (i : ℕ) → sound i ≡ false → sound 0 ≡ false
  sound-before zero e = e
  sound-before (suc i) e = go (ltb i n) refl (λ h. sound-before i (sound-one i h (subst (λ (j : ℕ). sound j ≡ false) (sym (add-one i)) e)))
    where
      go : (b : Bool) → ltb i n ≡ b → (i < n → sound 0 ≡ false) → sound 0 ≡ false
      go true q f = f (ltb-true i n q)
      go false q f = not-both (sound (suc i)) (sound-end (suc i) (omega (arith, ltb-false i n q))) e

  -- x is none of the numbers from k on
  pub listed-none : (x k : ℕ) → k ≤ n → ((j : ℕ) → k ≤ j → j < n → get_or l j 0 ≡ x → ⊥) → listed x (drop k l) ≡ false
  listed-none x k b h = down (n - k) k (omega arith) h
    where
      down : (d k : ℕ) → k + d ≡ n → ((j : ℕ) → k ≤ j → j < n → get_or l j 0 ≡ x → ⊥) → listed x (drop k l) ≡ false
      down zero k e h = listed-end x k (omega arith)
      down (suc d) k e h = listed_more x k (omega arith) (h k (omega arith) (omega arith))
          ∙ down d (k + 1) (omega arith) (λ j a c. h j (omega arith) c)

  -- one more number
  pub rises-less : (i : ℕ) → 1 ≤ i → get_or l i 0 ≤ get_or l (i - 1) 0 → rises l i ≡ false
  unfolding rises
  rises-less zero h e = absurd (omega arith)
  rises-less (suc k) h e =
      let m : suc k - 1 ≡ k = omega arith in
      and-false (rises l k) (ltb (get_or l k 0) (get_or l (suc k) 0))
      (le-ltb (get_or l k 0) (get_or l (suc k) 0) (subst (λ (j : ℕ). get_or l (suc k) 0 ≤ get_or l j 0) m e))

  pub rises-more : (i : ℕ) → 1 ≤ i → get_or l (i - 1) 0 < get_or l i 0 → rises l i ≡ rises l (i - 1)
  unfolding rises
  rises-more zero h e = absurd (omega arith)
  rises-more (suc k) h e =
      let m : suc k - 1 ≡ k = omega arith in
      rw m (rw (lt-ltb (get_or l k 0) (get_or l (suc k) 0) (subst (λ (j : ℕ). get_or l j 0 < get_or l (suc k) 0) m e)) (and-true (rises l k)))
    where
      and-true : (b : Bool) → (b && true) ≡ b
      and-true true = refl
      and-true false = refl

  -- rising numbers
  module _ (up : rises l (n - 1) ≡ true) where
    step-up : (m : ℕ) → rises l m ≡ true → (i : ℕ) → i < m → get_or l i 0 < get_or l (suc i) 0
    unfolding rises
    step-up zero r i h = absurd (omega arith)
    step-up (suc m) r i h = by_cases (last-or-lower i m h)
        (λ e. rw e (ltb-true _ _ (and_right (rises l m) _ r)))
        (λ b. step-up m (and_left (rises l m) _ r) i b)

    above : (d i : ℕ) → i + d < n → get_or l i 0 + d ≤ get_or l (i + d) 0
    above zero i h = rw (add-zero i) (omega arith)
    above (suc d) i h =
        let e : suc (i + d) ≡ i + suc d = omega arith in
        let s = step-up (n - 1) up (i + d) (omega arith) in
        let b = above d i (omega arith) in
        subst (λ (j : ℕ). get_or l i 0 + suc d ≤ get_or l j 0) e (omega (arith, s, b))

    apart : (i j : ℕ) → i < j → j < n → get_or l j 0 ≡ get_or l i 0 → ⊥
    apart i j h b e =
        let k : i + (j - i) ≡ j = omega arith in
        let u = above (j - i) i (omega arith) in
        let v = subst (λ (m : ℕ). get_or l i 0 + (j - i) ≤ get_or l m 0) k u in
        absurd (omega (arith, v, e, h))

    pub rising-sound : statics ≤ get_or l 0 0 → get_or l (n - 1) 0 < resources → sound 0 ≡ true
    rising-sound low high = down n 0 (omega arith)
      where
        down : (d k : ℕ) → k + d ≡ n → sound k ≡ true
        down zero k e = sound-end k (omega arith)
        down (suc d) k e =
            let a = above k 0 (omega arith) in
            let a' = subst (λ (m : ℕ). get_or l 0 0 + k ≤ get_or l m 0) (zero-add k) a in
            let b = above (n - 1 - k) k (omega arith) in
            let f : k + (n - 1 - k) ≡ n - 1 = omega arith in
            let b' = subst (λ (m : ℕ). get_or l k 0 + (n - 1 - k) ≤ get_or l m 0) f b in
            sound_more k (omega arith) (omega (arith, a', low)) (omega (arith, b', high))
            (listed-none (get_or l k 0) (k + 1) (omega arith) (λ j g h. apart k j (omega arith) h))
            ∙ down d (k + 1) (omega arith)

    -- of rising numbers only the last can be above a number
    pub last-most : (i : ℕ) → i < n → get_or l i 0 ≤ get_or l (n - 1) 0
    last-most i h =
        let e : i + (n - 1 - i) ≡ n - 1 = omega arith in
        let u = subst (λ (m : ℕ). get_or l i 0 + (n - 1 - i) ≤ get_or l m 0) e (above (n - 1 - i) i (omega arith)) in
        omega (arith, u)

  -- a number out of range
  pub low-unsound : (i : ℕ) → i < n → get_or l i 0 < statics → sound 0 ≡ false
  low-unsound i h a = sound-before i (sound-low i h a)

  pub high-unsound : (i : ℕ) → i < n → resources ≤ get_or l i 0 → sound 0 ≡ false
  high-unsound i h a = sound-before i (sound-high i h (omega (arith, a)) a)

  -- ── From the last number to the first ──

  pub sound-next : (i : ℕ) → 0 < i → i ≤ n → sound i ≡ true → statics ≤ get_or l (i - 1) 0 → get_or l (i - 1) 0 < resources
      → listed (get_or l (i - 1) 0) (drop i l) ≡ false → sound (i - 1) ≡ true
  sound-next i h b e low high none =
      let k : i - 1 + 1 ≡ i = omega arith in
      sound_more (i - 1) (omega arith) low high (subst (λ (j : ℕ). listed (get_or l (i - 1) 0) (drop j l) ≡ false) (sym k) none)
      ∙ subst (λ (j : ℕ). sound j ≡ true) (sym k) e

  pub sound-again : (i : ℕ) → 0 < i → i ≤ n → statics ≤ get_or l (i - 1) 0 → get_or l (i - 1) 0 < resources
      → listed (get_or l (i - 1) 0) (drop i l) ≡ true → sound 0 ≡ false
  sound-again i h b low high twice =
      let k : i - 1 + 1 ≡ i = omega arith in
      sound-before (i - 1) (sound-twice (i - 1) (omega arith) low high
      (subst (λ (j : ℕ). listed (get_or l (i - 1) 0) (drop j l) ≡ true) (sym k) twice))

  -- the endings of the numbers from i on are seen
  abbrev pub Seen : List Bool → ℕ → Type 0
  Seen seen i = (j : ℕ) → i ≤ j → j < n → get_or seen (get_or l j 0 % endings) false ≡ true

  -- a number whose ending is not seen is none of them
  pub unseen-unlisted : (seen : List Bool) (i x : ℕ) → i ≤ n → Seen seen i → get_or seen (x % endings) false ≡ false
      → listed x (drop i l) ≡ false
  unseen-unlisted seen i x b s u = listed-none x i b (λ j g h e.
      not-both (get_or seen (x % endings) false) (subst (λ (v : ℕ). get_or seen (v % endings) false ≡ true) e (s j g h)) u)

  pub seen_more : (seen : List Bool) (i : ℕ) → 0 < i → length seen ≡ endings → Seen seen i
      → Seen (set seen (get_or l (i - 1) 0 % endings) true) (i - 1)
  seen_more seen i h e s j g b = go (eqb (get_or l j 0 % endings) (get_or l (i - 1) 0 % endings)) refl
    where
      at : ℕ
      at = get_or l (i - 1) 0 % endings

      go : (q : Bool) → eqb (get_or l j 0 % endings) at ≡ q → get_or (set seen at true) (get_or l j 0 % endings) false ≡ true
      go true q = subst (λ (k : ℕ). get_or (set seen at true) k false ≡ true) (sym (eqb-true _ _ q))
          (get_or-set_same seen at true false (omega (arith, e)))
      go false q = get_or-set_other seen at (get_or l j 0 % endings) true false (eqb-false _ _ q)
          ∙ later (leb i j) refl
        where
          later : (z : Bool) → leb i j ≡ z → get_or seen (get_or l j 0 % endings) false ≡ true
          later true z = s j (leb-true i j z) b
          later false z =
              let k : j ≡ i - 1 = omega (arith, leb-false i j z) in
              absurd (eqb-false _ _ q (ap (λ (m : ℕ). get_or l m 0 % endings) k))
