-- Filling the table of ends node by node: the nodes that are left, and those that read a node.
use Prim.Native.Nat.{ℕ, zero, suc, ◌+◌, ◌-◌, ◌*◌, ◌/◌, ◌%◌, ◌^◌, ◌<◌, ◌≤◌}
use mathlib.Core.Path.{◌≡◌, refl, sym, ap, ◌∙◌, subst}
use mathlib.Core.Bool.{Bool, true, false, ◌||◌}
use mathlib.Core.Option.{Option, none, some}
use mathlib.Core.List.{List}
use mathlib.Core.Logic.{◌⊎◌, inl, inr}
use native.Mathlib.Nat.{div-eq_of_lt, one-mul, pow-suc}
use native.Mathlib.Omega.{arith}
use native.Mathlib.Decide.{ℕ_discrete, dec_lt}
use lib.Dec.{eqb, leb, lit<}
use lib.Bits.{bit_or, or_lt}
use lib.Pow.{pow_pos, pow-lt, pow_mono, ones_lt, low, field, mod-mod-pow, shl-shr, shl_exact}
use lib.ListN.{length, get_or, replicate, length-replicate}
use lib.Seq.{get_or-set_same}
use borrow.Author.Tests.{leb-true, leb-false}
use Rattle.usage.specs.Limits.{most_nodes, node_fields}
use Rattle.usage.specs.Outline.{Form, end, static_event, named_event, sequence, choice, loop, back, fresh, sandbox}
use Rattle.usage.proofs.Logic.{last-or-lower, not-both, false-true}
use Rattle.automaton.specs.Mask.{has}
use Rattle.automaton.proofs.MaskLaws.{all-below, all-below-at, has-or, has-zero}
use Rattle.checker_account.specs.declared.Resources.{Resources}
use Rattle.checker_account.specs.Tables.{base, Rows, Resets, joined_at, places_of}
use Rattle.checker_account.specs.Filling.{
  repeat,
  total,
  grown,
  Forms,
  forms_in,
  Wide,
  Derived,
  start,
  Filled,
  ends_of_lem,
  EndsRule,
  ends_of,
  settle_node_lem,
}
use Rattle.checker_account.proofs.MaskLaws.{has_right}
use Rattle.checker_account.proofs.JoinLaws.{joined_keeps, joined-below, zeros, zeros-wide}
use Rattle.checker_account.proofs.GrowsLaws.{Grows, joined-grows, grown-false, repeat-keeps, Filling, filling-length, most, nearer}
use Rattle.checker_account.proofs.SettleLaws.{node-grows, node-derived, WideLent, node_wide}
use Rattle.checker_account.proofs.SettledLaws.{in-still, Placed, Beside, NodeClosed, node-beside, node_done, node-unchanged, node_kept}
use Rattle.checker_account.proofs.SettledLaws.{PartOf, first, second, left, right, body, again, given, inside, Reads}
use Rattle.checker_tables.specs.Search.{Small, NodesFit}
use Rattle.checker_tables.specs.Work.{noted, readers_of}

-- ── Sets of nodes ──

pub has-own : (k : ℕ) → has (2 ^ k) k ≡ true
unfolding has
has-own k = ap (λ (n : ℕ). eqb (n % 2) 1) (ap (λ (n : ℕ). n / 2 ^ k) (sym (one-mul (2 ^ k))) ∙ shl-shr 1 k)

-- the set of node k, as the code makes it
pub shl-node : (k : ℕ) → k < most_nodes → 1 * 2 ^ k % 2 ^ 64 ≡ 2 ^ k
shl-node k h = shl_exact {a = 1} 1 k 64 (lit< tt) (omega arith) ∙ one-mul (2 ^ k)

pub has-low : (x q w : ℕ) → q < w → has (x % 2 ^ w) q ≡ has x q
unfolding has
has-low x q w h =
    let e : (w - (1 + q)) + (1 + q) ≡ w = omega arith in
    ap (λ (n : ℕ). eqb n 1)
    (sym (field (x % 2 ^ w) 1 q)
    ∙ ap (λ (n : ℕ). n / 2 ^ q) (subst (λ (m : ℕ). x % 2 ^ m % 2 ^ (1 + q) ≡ x % 2 ^ (1 + q)) e (mod-mod-pow x (w - (1 + q)) (1 + q)))
    ∙ field x 1 q)

pub has-high : (x q : ℕ) → x < 2 ^ q → has x q ≡ false
unfolding has
has-high x q h = ap (λ (n : ℕ). eqb (n % 2) 1) (div-eq_of_lt h)

-- all of n nodes
all-test : all-below 65 (λ n. all-below n (λ k. has (2 ^ n - 1) k)) ≡ true
unfolding all-below has
all-test = refl

pub all_left : (n k : ℕ) → n ≤ most_nodes → k < n → has (2 ^ n - 1) k ≡ true
all_left n k h l =
    all-below-at n (λ k. has (2 ^ n - 1) k) (all-below-at 65 (λ n. all-below n (λ k. has (2 ^ n - 1) k)) all-test n (omega arith)) k l

-- the highest member taken away, the others are left
module _ (s k : ℕ) (low-is : 2 ^ k ≤ s) (high_is : s < 2 ^ suc k) where
  rest-small : s - 2 ^ k < 2 ^ k
  rest-small = omega (arith, pow-suc 2 k)

  pub taken : (j : ℕ) → has (s - 2 ^ k) j ≡ false → (j ≡ k) ⊎ (has s j ≡ false)
  taken j h = go (ℕ_discrete j k) (dec_lt j k)
    where
      go : Dec (j ≡ k) → Dec (j < k) → (j ≡ k) ⊎ (has s j ≡ false)
      go (yes e) d = inl e
      go (no d) (yes l) =
          let whole : 1 * 2 ^ k + (s - 2 ^ k) ≡ s = omega arith in
          let rest : s % 2 ^ k ≡ s - 2 ^ k = ap (λ (n : ℕ). n % 2 ^ k) (sym whole) ∙ low 1 k rest-small in
          inr (sym (has-low s j k l) ∙ ap (λ (n : ℕ). has n j) rest ∙ h)
      go (no d) (no l) =
          let b : suc k ≤ j = omega arith in
          inr (has-high s j (omega (arith, high_is, pow_mono b)))

  pub highest-lt : (n : ℕ) → s < 2 ^ n → k < n
  highest-lt n h = go (leb n k) refl
    where
      go : (b : Bool) → leb n k ≡ b → k < n
      go true e = absurd (omega (arith, pow_mono (leb-true n k e)))
      go false e = leb-false n k e

-- a set to which another is joined
pub neither : (s v j : ℕ) → has (bit_or s v) j ≡ false → (has s j ≡ false) × (has v j ≡ false)
neither s v j h = go (has s j) (has v j) (sym (has-or s v j) ∙ h)
  where
    go : (a b : Bool) → (a || b) ≡ false → (a ≡ false) × (b ≡ false)
    go true b e = false-true (sym e)
    go false true e = false-true (sym e)
    go false false e = (refl, refl)

-- ── The nodes that read a node ──

joined-new : (t : List ℕ) (i v d : ℕ) → i < length t → has v d ≡ true → has (get_or (joined_at t i v) i 0) d ≡ true
unfolding joined_at
joined-new t i v d l h = ap (λ (n : ℕ). has n d) (get_or-set_same t i (bit_or (get_or t i 0) v) 0 l) ∙ has_right (get_or t i 0) v d h

noted-length : (k : ℕ) (f : Option Form) (u : List ℕ) → length (noted k f u) ≡ length u
unfolding noted
noted-length k none u = refl
noted-length k (some end) u = refl
noted-length k (some (static_event a s)) u = refl
noted-length k (some (named_event a n)) u = refl
noted-length k (some (sequence a b)) u = (joined-grows (joined_at u a (2 ^ k)) b (2 ^ k)).len ∙ (joined-grows u a (2 ^ k)).len
noted-length k (some (choice a b)) u = (joined-grows (joined_at u a (2 ^ k)) b (2 ^ k)).len ∙ (joined-grows u a (2 ^ k)).len
noted-length k (some (loop a)) u = (joined-grows u a (2 ^ k)).len
noted-length k (some (back a)) u = (joined-grows u a (2 ^ k)).len
noted-length k (some (fresh n b)) u = (joined-grows u b (2 ^ k)).len
noted-length k (some (sandbox s b)) u = (joined-grows u b (2 ^ k)).len

module _ (k j d : ℕ) (u : List ℕ) (h : has (get_or u j 0) d ≡ true) where
  noted-two : (a b : ℕ) → has (get_or (joined_at (joined_at u a (2 ^ k)) b (2 ^ k)) j 0) d ≡ true
  noted-two a b = joined_keeps (joined_at u a (2 ^ k)) b (2 ^ k) j d (joined_keeps u a (2 ^ k) j d h)

  noted-keeps : (f : Option Form) → has (get_or (noted k f u) j 0) d ≡ true
  unfolding noted
  noted-keeps none = h
  noted-keeps (some end) = h
  noted-keeps (some (static_event a s)) = h
  noted-keeps (some (named_event a n)) = h
  noted-keeps (some (sequence a b)) = noted-two a b
  noted-keeps (some (choice a b)) = noted-two a b
  noted-keeps (some (loop a)) = joined_keeps u a (2 ^ k) j d h
  noted-keeps (some (back a)) = joined_keeps u a (2 ^ k) j d h
  noted-keeps (some (fresh n b)) = joined_keeps u b (2 ^ k) j d h
  noted-keeps (some (sandbox s b)) = joined_keeps u b (2 ^ k) j d h

module _ (k : ℕ) (u : List ℕ) where
  one-new : (a : ℕ) → a < length u → has (get_or (joined_at u a (2 ^ k)) a 0) k ≡ true
  one-new a l = joined-new u a (2 ^ k) k l (has-own k)

  two-first : (a b : ℕ) → a < length u → has (get_or (joined_at (joined_at u a (2 ^ k)) b (2 ^ k)) a 0) k ≡ true
  two-first a b l = joined_keeps (joined_at u a (2 ^ k)) b (2 ^ k) a k (one-new a l)

  two-second : (a b : ℕ) → b < length u → has (get_or (joined_at (joined_at u a (2 ^ k)) b (2 ^ k)) b 0) k ≡ true
  two-second a b l = joined-new (joined_at u a (2 ^ k)) b (2 ^ k) k (omega (arith, (joined-grows u a (2 ^ k)).len)) (has-own k)

  part-noted : {j : ℕ} {f : Form} → j < length u → PartOf f j → has (get_or (noted k (some f) u) j 0) k ≡ true
  unfolding noted
  part-noted l (first {a = a} {b = b}) = two-first a b l
  part-noted l (second {a = a} {b = b}) = two-second a b l
  part-noted l (left {a = a} {b = b}) = two-first a b l
  part-noted l (right {a = a} {b = b}) = two-second a b l
  part-noted l (body {a = a}) = one-new a l
  part-noted l (again {a = a}) = one-new a l
  part-noted l (given {b = b}) = one-new b l
  part-noted l (inside {b = b}) = one-new b l

  read-noted : (j : ℕ) (f : Option Form) → j < length u → Reads f j → has (get_or (noted k f u) j 0) k ≡ true
  read-noted j none l r = absurd r
  read-noted j (some f) l r = part-noted l r

module _ (forms : Forms) where
  pub upto-length : (n : ℕ) (u : List ℕ) → length (repeat (λ k. noted k (forms k)) n u) ≡ length u
  upto-length n u = repeat-keeps (λ w. length w ≡ length u) (λ k. noted k (forms k)) n (λ k w l e. noted-length k (forms k) w ∙ e) u refl

  reads-upto : (n k j : ℕ) (u : List ℕ) → k < n → j < length u → Reads (forms k) j
      → has (get_or (repeat (λ k. noted k (forms k)) n u) j 0) k ≡ true
  unfolding repeat
  reads-upto zero k j u l h r = absurd (omega arith)
  reads-upto (suc n) k j u l h r = go (repeat (λ k. noted k (forms k)) n u) (upto-length n u) (λ b. reads-upto n k j u b h r)
      (last-or-lower k n l)
    where
      go : (w : List ℕ) → length w ≡ length u → (k < n → has (get_or w j 0) k ≡ true) → (k ≡ n) ⊎ (k < n)
          → has (get_or (noted n (forms n) w) j 0) k ≡ true
      go w e ih (inl d) =
          subst (λ (i : ℕ). has (get_or (noted n (forms n) w) j 0) i ≡ true) (sym d)
          (read-noted n w j (forms n) (omega arith) (subst (λ (i : ℕ). Reads (forms i) j) d r))
      go w e ih (inr b) = noted-keeps n j k w (ih b) (forms n)

  pub reader-in : (n k j : ℕ) → k < n → j < most_nodes → Reads (forms k) j → has (get_or (readers_of n forms) j 0) k ≡ true
  unfolding readers_of
  reader-in n k j l h r = reads-upto n k j (replicate most_nodes 0) l h r

  noted-below : (n k : ℕ) (f : Option Form) (u : List ℕ) → k < n → ((j : ℕ) → get_or u j 0 < 2 ^ n) → (j : ℕ) → get_or (noted k f u) j 0 < 2 ^ n
  unfolding noted
  noted-below n k none u l h = h
  noted-below n k (some end) u l h = h
  noted-below n k (some (static_event a s)) u l h = h
  noted-below n k (some (named_event a m)) u l h = h
  noted-below n k (some (sequence a b)) u l h = joined-below n (joined_at u a (2 ^ k)) b (2 ^ k) (pow-lt l)
      (joined-below n u a (2 ^ k) (pow-lt l) h)
  noted-below n k (some (choice a b)) u l h = joined-below n (joined_at u a (2 ^ k)) b (2 ^ k) (pow-lt l)
      (joined-below n u a (2 ^ k) (pow-lt l) h)
  noted-below n k (some (loop a)) u l h = joined-below n u a (2 ^ k) (pow-lt l) h
  noted-below n k (some (back a)) u l h = joined-below n u a (2 ^ k) (pow-lt l) h
  noted-below n k (some (fresh m b)) u l h = joined-below n u b (2 ^ k) (pow-lt l) h
  noted-below n k (some (sandbox s b)) u l h = joined-below n u b (2 ^ k) (pow-lt l) h

  pub readers-below : (n j : ℕ) → get_or (readers_of n forms) j 0 < 2 ^ n
  unfolding readers_of
  readers-below n j =
      repeat-keeps (λ u. (j : ℕ) → get_or u j 0 < 2 ^ n) (λ k. noted k (forms k)) n (λ k u l h. noted-below n k (forms k) u l h)
      (replicate most_nodes 0) (λ j. subst (λ (v : ℕ). v < 2 ^ n) (sym (zeros most_nodes j)) (pow_pos n)) j

-- ── The loop ──

small-placed : (f : Option Form) → Small f → Placed f
small-placed none h j x = elim x [ ]
small-placed (some end) h j x = elim x [ ]
small-placed (some (static_event _ _)) h j x = elim x [ ]
small-placed (some (named_event _ _)) h j x = elim x [ ]
small-placed (some (sequence a b)) h j first = h.0
small-placed (some (sequence a b)) h j second = h.1
small-placed (some (choice a b)) h j left = h.0
small-placed (some (choice a b)) h j right = h.1
small-placed (some (loop a)) h j body = h
small-placed (some (back a)) h j again = h
small-placed (some (fresh n b)) h j given = h.1
small-placed (some (sandbox s b)) h j inside = h

pub placed-forms : (t : List ℕ) → NodesFit t → (k : ℕ) → k < length t / node_fields → Placed (forms_in t k)
placed-forms t h k l = small-placed (forms_in t k) (h.each_small k l)

-- the table so far, and the nodes that are left: no rule adds anything to the entries of the others
pub record Working (rows : Rows) (x : Resources) (resets : Resets) (n : ℕ) (forms : Forms) (t : List ℕ) (s : ℕ) : Type 0 where
  pub filling : Filling (EndsRule rows x resets n forms) (replicate (places_of x) 0) t
  pub nodes : s < 2 ^ n
  pub closed : (k : ℕ) → k < n → has s k ≡ false → NodeClosed rows x resets k (forms k) t

-- A turn of the loop makes the table's sum greater, or takes a node away and adds none.
abbrev pub left_of : ℕ → List ℕ → ℕ → ℕ
left_of size t s = (most size - total t) * 18446744073709551616 + s

module _ (rows : Rows) (x : Resources) (resets : Resets) (n : ℕ) (forms : Forms) (few : n ≤ most_nodes) where
  pub working-start : Working rows x resets n forms (replicate (places_of x) 0) (2 ^ n - 1)
  working-start = record {
    filling = record { derived = start; wide = zeros-wide (places_of x) };
    nodes = ones_lt n;
    closed = λ k b h. not-both (has (2 ^ n - 1) k) (all_left n k few b) h;
  }

  pub working-length : {t : List ℕ} {s : ℕ} → Working rows x resets n forms t s → length t ≡ places_of x
  working-length {t} w = filling-length (places_of x) (EndsRule rows x resets n forms) (replicate (places_of x) 0) t (length-replicate {A = ℕ} (places_of x) 0) w.filling

  rule-closed : {t : List ℕ} {i v : ℕ} → Working rows x resets n forms t 0 → EndsRule rows x resets n forms t i v → joined_at t i v ≡ t
  rule-closed {t} w (ends_of k m q b low high lq) =
      in-still t (base k m + q) (ends_of_lem rows x resets t k m q (forms k)) (w.closed k b (has-zero k) m q low high lq)

  pub working-ends : {t : List ℕ} → Working rows x resets n forms t 0 → Filled (EndsRule rows x resets n forms) (replicate (places_of x) 0) t
  working-ends w = record { derived = w.filling.derived; closed = λ i v r. rule-closed w r }

  -- node k, the highest that is left, is settled
  module _ (t u : List ℕ) (s k : ℕ) (w : Working rows x resets n forms t s) (low-is : 2 ^ k ≤ s) (high_is : s < 2 ^ suc k)
      (e : u ≡ settle_node_lem rows x resets k (forms k) t) where
    pub there : k < n
    there = highest-lt s k low-is high_is n w.nodes

    small : k < most_nodes
    small = let b = there in omega arith

    grows : Grows t u
    grows = subst (Grows t) (sym e) (node-grows rows x resets k (forms k) t)

    fewer : s - 2 ^ k < 2 ^ n
    fewer = let b = w.nodes in omega arith

    module _ (g : grown t u ≡ false) where
      same : u ≡ t
      same = grown-false grows g

      pub still-working : Working rows x resets n forms u (s - 2 ^ k)
      still-working = subst (λ (v : List ℕ). Working rows x resets n forms v (s - 2 ^ k)) (sym same) (record {
        filling = w.filling;
        nodes = fewer;
        closed = λ j b h. go j b (taken s k low-is high_is j h);
      })
        where
          go : (j : ℕ) → j < n → (j ≡ k) ⊎ (has s j ≡ false) → NodeClosed rows x resets j (forms j) t
          go j b (inl d) =
              subst (λ (i : ℕ). NodeClosed rows x resets i (forms i) t) (sym d)
              (node-unchanged rows x resets k (forms k) small t (working-length w) (sym e ∙ same))
          go j b (inr h) = w.closed j b h

      pub still-less : left_of (places_of x) u (s - 2 ^ k) < left_of (places_of x) t s
      still-less = let d : total u ≡ total t = ap total same in let b = pow_pos k in omega arith

    module _ (lent : WideLent resets) (placed : (j : ℕ) → j < n → Placed (forms j)) (g : grown t u ≡ true) where
      abbrev readers : ℕ
      readers = get_or (readers_of n forms) k 0

      wide : Wide u
      wide = subst Wide (sym e) (node_wide rows x resets lent k (forms k) t w.filling.wide)

      beside : Beside k u t
      beside = subst (λ (v : List ℕ). Beside k v t) (sym e) (node-beside rows x resets k (forms k) small t)

      pub more-working : Working rows x resets n forms u (bit_or (s - 2 ^ k) readers)
      more-working = record {
        filling = record {
          derived =
              subst (Derived (EndsRule rows x resets n forms) (replicate (places_of x) 0)) (sym e)
              (node-derived rows x resets n forms (replicate (places_of x) 0) k t there w.filling.derived);
          wide = wide;
        };
        nodes = or_lt n (s - 2 ^ k) readers fewer (readers-below forms n k);
        closed = λ j b h. let (h₁, h₂) = neither (s - 2 ^ k) readers j h in
            go j b (λ r. not-both (has readers j) (reader-in forms n j k b small r) h₂) (ℕ_discrete j k) (taken s k low-is high_is j h₁);
      }
        where
          go : (j : ℕ) → j < n → (Reads (forms j) k → ⊥) → Dec (j ≡ k) → (j ≡ k) ⊎ (has s j ≡ false)
              → NodeClosed rows x resets j (forms j) u
          go j b away (yes d) h =
              subst (λ (i : ℕ). NodeClosed rows x resets i (forms i) u) (sym d)
              (subst (NodeClosed rows x resets k (forms k)) (sym e)
              (node_done rows x resets k (forms k) small t (working-length w) (placed k there)
              (λ r. away (subst (λ (i : ℕ). Reads (forms i) k) (sym d) r))))
          go j b away (no d) (inl f) = absurd (d f)
          go j b away (no d) (inr h) =
              node_kept rows x resets k j (forms j) t u beside d (omega arith) (placed j b) away (w.closed j b h)

      pub more-less : (s' : ℕ) → s' < 18446744073709551616 → left_of (places_of x) u s' < left_of (places_of x) t s
      more-less s' b = let m = nearer (places_of x) t u (grows.len ∙ working-length w) wide g in omega arith
