-- The set of pair policies: one edge after the other, and whether there are more than two.
use Prim.Native.Nat.{ℕ, zero, suc, ◌+◌, ◌^◌, ◌<◌}
use mathlib.Core.Path.{◌≡◌, refl, sym, ap, ap₂, ◌∙◌}
use mathlib.Core.Bool.{Bool, true, false, ◌&&◌, ◌||◌, cond, beq}
use mathlib.Core.List.{List, [], ◌∷◌, ◌++◌}
use mathlib.Core.Logic.{◌↔◌}
use native.Mathlib.Nat.{zero-add}
use native.Mathlib.Numerals.{add-one}
use native.Mathlib.Omega.{arith}
use borrow.Author.Tests.{eqb-true, ne_eqb, ltb-true, ltb-false}
use lib.Bits.{bit_or, or_lt}
use lib.Count.{ones}
use lib.Dec.{eqb, ltb}
use Rattle.usage.specs.declared.Edge.{Edge}
use Rattle.usage.specs.Limits.{policies}
use Rattle.usage.specs.Policy.{PairPolicy}
use Rattle.usage.specs.Tables.{from, edge_at}
use Rattle.usage.specs.Tests.{some_of, some_below, is_pair, three_pairs}
use Rattle.usage.proofs.TableLaws.{from-snoc}
use Rattle.usage.proofs.ValidLaws.{decides-pair}
use Rattle.automaton.specs.Mask.{has, union}
use Rattle.automaton.specs.PairSet.{pair_set, with_pair, with_edge, many_in}
use Rattle.automaton.proofs.MaskLaws.{mask_of-has, mask_of-lt, same_test, all-below, all-below-at, has-or, has-pow, pow-byte}
use Rattle.automaton.proofs.RowLaws.{union-ext}

-- the set has the pair policies
pub set-has : (es : List Edge) (p : ℕ) → p < policies → has (pair_set es) p ≡ is_pair es p
unfolding pair_set
set-has es p l = mask_of-has (is_pair es) p l

pub set-lt : (es : List Edge) → pair_set es < 256
unfolding pair_set
set-lt es = mask_of-lt (is_pair es)

pub pair_set_lem : (es : List Edge) (p : ℕ) → p < policies → (has (pair_set es) p ≡ true) ↔ PairPolicy es p
pair_set_lem es p l =
    let same = set-has es p l in
    let d = decides-pair es p in
    (λ e. d.0 (sym same ∙ e), λ h. same ∙ d.1 h)

-- ── One more edge ──

-- a set is what it has
whole : ℕ → Bool
whole m = eqb (union 8 (λ i. cond (has m i) (2 ^ i) 0)) m

whole-test : all-below 256 whole ≡ true
unfolding all-below whole has union
whole-test = refl

pub set_is : (m : ℕ) → m < 256 → union 8 (λ i. cond (has m i) (2 ^ i) 0) ≡ m
unfolding whole
set_is m l = eqb-true _ m (all-below-at 256 whole whole-test m l)

-- more than two numbers are in a set
more : ℕ → Bool
more m = beq (ltb 2 (ones m)) (many_in m)

more-test : all-below 256 more ≡ true
unfolding all-below more many_in ones
more-test = refl

pub many-ones : (m : ℕ) → m < 256 → ltb 2 (ones m) ≡ many_in m
unfolding more
many-ones m l = same_test (ltb 2 (ones m)) (many_in m) (all-below-at 256 more more-test m l)

some-snoc : {A : Type 0} (t : A → Bool) (l : List A) (x : A) → some_of t (l ++ (x ∷ [])) ≡ (some_of t l || t x)
unfolding some_of
some-snoc t [] x = last (t x)
  where
    last : (b : Bool) → (b || false) ≡ b
    last true = refl
    last false = refl
some-snoc t (y ∷ l) x = ap (λ (b : Bool). t y || b) (some-snoc t l x) ∙ assoc (t y) (some_of t l) (t x)
  where
    assoc : (a b c : Bool) → (a || (b || c)) ≡ ((a || b) || c)
    assoc true b c = refl
    assoc false b c = refl

module _ (es : List Edge) (e : Edge) where
  abbrev all : List Edge
  all = es ++ (e ∷ [])

  pair-snoc : (p : ℕ) → is_pair all p ≡ (is_pair es p || (eqb e.policy p && eqb e.on 3))
  unfolding is_pair
  pair-snoc p = some-snoc (λ (f : Edge). eqb f.policy p && eqb f.on 3) es e

  with-has : (p : ℕ) → p < policies → has (with_edge (pair_set es) e) p ≡ is_pair all p
  unfolding with_pair
  with-has p l = go (eqb e.on 3) refl (ltb e.policy policies) refl ∙ sym (pair-snoc p)
    where
      none : (x y : Bool) → y ≡ false → x ≡ (x || y)
      none true y q = refl
      none false y q = sym q

      off : (b : Bool) → (b && false) ≡ false
      off true = refl
      off false = refl

      on : (b : Bool) → (b && true) ≡ b
      on true = refl
      on false = refl

      go : (x : Bool) → eqb e.on 3 ≡ x → (y : Bool) → ltb e.policy policies ≡ y
          → has (cond (x && y) (bit_or (pair_set es) (2 ^ e.policy)) (pair_set es)) p ≡ (is_pair es p || (eqb e.policy p && eqb e.on 3))
      go true q true k =
          has-or (pair_set es) (2 ^ e.policy) p
          ∙ ap₂ (λ (a b : Bool). a || b) (set-has es p l)
          (has-pow e.policy p (ltb-true e.policy policies k) l
          ∙ sym (ap (λ (b : Bool). eqb e.policy p && b) q ∙ on (eqb e.policy p)))
      go true q false k =
          let z = ltb-false e.policy policies k in
          set-has es p l ∙ none (is_pair es p) (eqb e.policy p && eqb e.on 3)
          (ap (λ (b : Bool). b && eqb e.on 3) (ne_eqb e.policy p (λ w. omega arith)))
      go false q y k =
          set-has es p l ∙ none (is_pair es p) (eqb e.policy p && eqb e.on 3)
          (ap (λ (b : Bool). eqb e.policy p && b) q ∙ off (eqb e.policy p))

  with-lt : with_edge (pair_set es) e < 256
  unfolding with_pair
  with-lt = go (eqb e.on 3) (ltb e.policy policies) refl
    where
      go : (x y : Bool) → ltb e.policy policies ≡ y → cond (x && y) (bit_or (pair_set es) (2 ^ e.policy)) (pair_set es) < 256
      go true true k = or_lt 8 (pair_set es) (2 ^ e.policy) (set-lt es) (pow-byte e.policy (ltb-true e.policy policies k))
      go true false k = set-lt es
      go false y k = set-lt es

  pub with-edge : with_edge (pair_set es) e ≡ pair_set all
  unfolding pair_set
  with-edge =
      sym (set_is (with_edge (pair_set es) e) with-lt)
      ∙ union-ext policies (λ p. cond (has (with_edge (pair_set es) e) p) (2 ^ p) 0) (λ p. cond (is_pair all p) (2 ^ p) 0)
      (λ p l. ap (λ (b : Bool). cond b (2 ^ p) 0) (with-has p l))

module _ (t : List ℕ) where
  pub set-none : 0 ≡ pair_set (from (edge_at t) 0 0)
  unfolding pair_set is_pair from some_of union
  set-none = refl

  pub set_more : (i m : ℕ) → m ≡ pair_set (from (edge_at t) 0 i) → with_edge m (edge_at t i) ≡ pair_set (from (edge_at t) 0 (i + 1))
  set_more i m e =
      ap (λ (u : ℕ). with_edge u (edge_at t i)) e ∙ with-edge (from (edge_at t) 0 i) (edge_at t i)
      ∙ ap pair_set (ap (λ (j : ℕ). from (edge_at t) 0 i ++ (edge_at t j ∷ [])) (sym (zero-add i)) ∙ sym (from-snoc (edge_at t) 0 i)
      ∙ ap (from (edge_at t) 0) (sym (add-one i)))

-- ── More than two ──

some-ext : (n : ℕ) (f g : ℕ → Bool) → ((i : ℕ) → i < n → f i ≡ g i) → some_below f n ≡ some_below g n
unfolding some_below
some-ext zero f g h = refl
some-ext (suc n) f g h = ap₂ (λ (a b : Bool). a || b) (h n (omega arith)) (some-ext n f g (λ i l. h i (omega arith)))

-- three numbers, falling, pass the test
abbrev three : (ℕ → Bool) → Bool
three t = some_below (λ a. t a && some_below (λ b. t b && some_below t b) a) 8

three-ext : (f g : ℕ → Bool) → ((i : ℕ) → i < 8 → f i ≡ g i) → three f ≡ three g
three-ext f g h =
    some-ext 8 _ _ (λ a l. ap₂ (λ (x y : Bool). x && y) (h a l) (some-ext a _ _ (λ b k. ap₂ (λ (x y : Bool). x && y)
    (h b (omega arith)) (some-ext b _ _ (λ c j. h c (omega arith))))))

counted : ℕ → Bool
counted m = beq (many_in m) (three (has m))

counted-test : all-below 256 counted ≡ true
unfolding all-below counted many_in some_below has
counted-test = refl

pub many-three : (es : List Edge) → many_in (pair_set es) ≡ three_pairs es
unfolding three_pairs counted
many-three es =
    same_test (many_in (pair_set es)) (three (has (pair_set es))) (all-below-at 256 counted counted-test (pair_set es) (set-lt es))
    ∙ three-ext (has (pair_set es)) (is_pair es) (λ p l. set-has es p l)
