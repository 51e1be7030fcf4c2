-- The union of many sets, joined sixteen at a time.
use Prim.Native.Nat.{ℕ, zero, suc, ◌+◌, ◌-◌, ◌*◌, ◌<◌, ◌≤◌}
use mathlib.Core.Path.{◌≡◌, refl, sym, ap, ap₂, ◌∙◌}
use mathlib.Core.List.{List}
use native.Mathlib.Nat.{add-zero, add-suc}
use native.Mathlib.Omega.{arith}
use lib.Bits.{bit_or, or_zero_r, or_comm, or_self}
use lib.ListN.{length, get_or, set, length-set, take, drop, length-drop}
use lib.Seq.{length-take-le, get_or-take, get_or-drop, get_or-set_same, get_or-set_other}
use Rattle.usage.proofs.Logic.{by_cases, last-or-lower}
use Rattle.automaton.specs.Mask.{union}
use Rattle.automaton.proofs.MaskLaws.{or_assoc}
use Rattle.automaton.proofs.RowLaws.{union-ext}
use Rattle.monitor_sets.specs.Code.{lanes}

-- ── Unions ──

pub union-add : (a b : ℕ) (f : ℕ → ℕ) → union (a + b) f ≡ bit_or (union a f) (union b (λ i. f (a + i)))
unfolding union
union-add a zero f = ap (λ (n : ℕ). union n f) (add-zero a) ∙ sym (or_zero_r (union a f))
union-add a (suc b) f = ap (λ (n : ℕ). union n f) (add-suc a b) ∙ ap (λ (u : ℕ). bit_or u (f (a + b))) (union-add a b f)
    ∙ or_assoc (union a f) (union b (λ i. f (a + i))) (f (a + b))

-- (u ∪ v) ∪ (x ∪ y) = (u ∪ x) ∪ (v ∪ y)
pub shuffle : (u v x y : ℕ) → bit_or (bit_or u v) (bit_or x y) ≡ bit_or (bit_or u x) (bit_or v y)
shuffle u v x y =
    or_assoc u v (bit_or x y)
    ∙ ap (bit_or u) (sym (or_assoc v x y) ∙ ap (λ (w : ℕ). bit_or w y) (or_comm v x) ∙ or_assoc x v y)
    ∙ sym (or_assoc u x (bit_or v y))

pub union-or : (n : ℕ) (f g : ℕ → ℕ) → union n (λ i. bit_or (f i) (g i)) ≡ bit_or (union n f) (union n g)
unfolding union
union-or zero f g = sym (or_self 0)
union-or (suc n) f g = ap (λ (u : ℕ). bit_or u (bit_or (f n) (g n))) (union-or n f g) ∙ shuffle (union n f) (union n g) (f n) (g n)

-- the last sixteen, joined to the first a of n, which some of them are among
pub union-back : (f : ℕ → ℕ) (a n : ℕ) → a ≤ n → n ≤ a + lanes → lanes ≤ n
    → bit_or (union a f) (union lanes (λ i. f (n - lanes + i))) ≡ union n f
union-back f a n h b l =
    ap₂ (λ (u v : ℕ). bit_or u v) first last
    ∙ sym (or_assoc (bit_or y x) x z)
    ∙ ap (λ (u : ℕ). bit_or u z) (or_assoc y x x ∙ ap (bit_or y) (or_self x) ∙ sym first)
    ∙ sym (union-add a (n - a) f)
    ∙ ap (λ (m : ℕ). union m f) all
  where
    s : ℕ
    s = n - lanes

    x : ℕ
    x = union (a - s) (λ i. f (s + i))

    y : ℕ
    y = union s f

    z : ℕ
    z = union (n - a) (λ i. f (a + i))

    all : a + (n - a) ≡ n
    all = omega arith

    start : s + (a - s) ≡ a
    start = omega arith

    first : union a f ≡ bit_or y x
    first = ap (λ (m : ℕ). union m f) (sym start) ∙ union-add s (a - s) f

    parts : a - s + (n - a) ≡ lanes
    parts = omega arith

    last : union lanes (λ i. f (s + i)) ≡ bit_or x z
    last = ap (λ (m : ℕ). union m (λ i. f (s + i))) (sym parts) ∙ union-add (a - s) (n - a) (λ i. f (s + i))
        ∙ ap (bit_or x) (union-ext (n - a) (λ i. f (s + (a - s + i))) (λ i. f (a + i)) (λ i l. ap f (place i)))
      where
        place : (i : ℕ) → s + (a - s + i) ≡ a + i
        place i = omega (arith, start)

-- sixteen more
pub union-next : (f : ℕ → ℕ) (i : ℕ) → bit_or (union (lanes * i) f) (union lanes (λ j. f (lanes * i + j))) ≡ union (lanes * (i + 1)) f
union-next f i = sym (union-add (lanes * i) lanes f) ∙ ap (λ (m : ℕ). union m f) (next i)
  where
    next : (i : ℕ) → lanes * i + lanes ≡ lanes * (i + 1)
    next i = omega arith

-- a part of the sets
pub union-part : (l : List ℕ) (k m n : ℕ) → m ≡ n → k + n ≤ length l
    → union (length (take m (drop k l))) (λ i. get_or (take m (drop k l)) i 0) ≡ union n (λ i. get_or l (k + i) 0)
union-part l k m n e h =
    ap (λ (u : ℕ). union (length (take u (drop k l))) (λ i. get_or (take u (drop k l)) i 0)) e
    ∙ ap (λ (u : ℕ). union u (λ i. get_or (take n (drop k l)) i 0)) size
    ∙ union-ext n (λ i. get_or (take n (drop k l)) i 0) (λ i. get_or l (k + i) 0)
    (λ i b. get_or-take n (drop k l) i 0 b ∙ get_or-drop k l i 0)
  where
    size : length (take n (drop k l)) ≡ n
    size = length-take-le n (drop k l) (omega (arith, length-drop k l))

-- ── One place after the other ──

-- the places below i are joined, the others as they were
pub record Joining (all : List ℕ) (f : ℕ → ℕ) (now : List ℕ) (i : ℕ) : Type 0 where
  pub size : length now ≡ length all
  pub done : (j : ℕ) → j < i → get_or now j 0 ≡ bit_or (get_or all j 0) (f j)
  pub ahead : (j : ℕ) → i ≤ j → get_or now j 0 ≡ get_or all j 0

module _ (all : List ℕ) (f : ℕ → ℕ) where
  pub joining-none : Joining all f all 0
  joining-none = record { size = refl; done = λ j l. absurd (omega arith); ahead = λ j l. refl }

  pub joining-more : (now : List ℕ) (i : ℕ) → Joining all f now i → i < length all
      → Joining all f (set now i (bit_or (get_or now i 0) (f i))) (i + 1)
  joining-more now i h l = record {
    size = length-set now i _ ∙ h.size;
    done = λ j b. by_cases (last-or-lower j i (omega arith))
        (λ e. rw e (get_or-set_same now i _ 0 (omega (arith, h.size, l)) ∙ ap (λ (u : ℕ). bit_or u (f i)) (h.ahead i (omega arith))))
        (λ b. get_or-set_other now i j _ 0 (λ z. omega arith) ∙ h.done j b);
    ahead = λ j b. get_or-set_other now i j _ 0 (λ z. omega arith) ∙ h.ahead j (omega arith);
  }

  pub joined-all : (now : List ℕ) → Joining all f now lanes
      → union lanes (λ i. get_or now i 0) ≡ bit_or (union lanes (λ i. get_or all i 0)) (union lanes f)
  joined-all now h = union-ext lanes (λ i. get_or now i 0) (λ i. bit_or (get_or all i 0) (f i)) h.done ∙ union-or lanes (λ i. get_or all i 0) f
