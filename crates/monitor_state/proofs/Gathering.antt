-- The set that is gathered of a policy holds what some instance may be in.
use Prim.Native.Nat.{ℕ, ◌+◌, ◌*◌, ◌<◌, ◌≤◌}
use mathlib.Core.Path.{◌≡◌, refl, sym, ap, subst, ◌∙◌}
use mathlib.Core.Bool.{Bool, true, false}
use mathlib.Core.List.{List, [], ◌∷◌}
use mathlib.Core.Logic.{◌⊎◌, inl, inr, ◌↔◌}
use native.Mathlib.Nat.{zero-add}
use lib.Dec.{eqb, ltb, lit<}
use lib.ListN.{length, get_or, set}
use lib.Seq.{set_out, get_or-set_same, get_or-set_other}
use borrow.Author.Tests.{eqb-true, eqb-false, ltb-true, ltb-false}
use Rattle.usage.specs.declared.Edge.{Edge}
use Rattle.usage.specs.Limits.{policies, states}
use Rattle.usage.specs.Policy.{PairPolicy, Instance, pair, Sees, EdgesOk}
use Rattle.usage.specs.Past.{Past, May}
use Rattle.usage.specs.Placed.{Placed, none_placed, next_placed, At}
use Rattle.usage.specs.Tests.{some_below, is_pair}
use Rattle.usage.proofs.Logic.{not-both}
use Rattle.usage.proofs.ValidLaws.{decides-pair}
use Rattle.usage.proofs.PlacedLaws.{one_placed}
use Rattle.usage.proofs.TableLaws.{get_d-from, from-below, length_from}
use Rattle.automaton.specs.Mask.{has}
use Rattle.automaton.proofs.MaskLaws.{some_at, some-found, union-has, union-lt}
use Rattle.monitor_sets.specs.Instances.{instances}
use Rattle.monitor_sets.specs.Sets.{gathered_at}
use Rattle.monitor_pairs.specs.Pairs.{gather_pairs}
use Rattle.monitor_pairs.specs.Tracked.{TracksPairs}
use Rattle.monitor_pairs.specs.Blocks.{pair_sets, lower_block, upper_block, pairs_of, with_gathered}
use Rattle.monitor_pairs.proofs.TrackedLaws.{gather-tracks}
use Rattle.monitor_pairs.proofs.BlockLaws.{lower-below, upper-below}
use Rattle.monitor_pairs.proofs.ByteLaws.{gather-byte}
use Rattle.monitor_pairs.proofs.EachLaws.{lower-pair, upper-pair, blocks-differ, has_block, gathered-first, gathered-second, gathered-other}
use Rattle.monitor_state.specs.declared.Tracked.{Tracked}
use Rattle.monitor_state.specs.declared.Created.{Created}
use Rattle.monitor_state.specs.Created.{used}
use Rattle.monitor_state.specs.Tracked.{set_at, possible_in, gathered}
use Rattle.monitor_state.specs.Represents.{Stands, Tracks, TracksBlock, Gathers}
use Rattle.monitor_state.proofs.StandsLaws.{stands-used}

-- Each instance in use is at some place in use, and each place in use has a set.
module _ (local : Bool) (es : List Edge) (past : Past) (c : Created) (t : Tracked) (tracks : Tracks local es past c t) where
  pub gathered-single : (p q : ℕ) → p < policies → (PairPolicy es p → ⊥) → q < states
      → (has (get_or (gathered (used c) t.sets) p 0) q ≡ true) ↔ ((places : List ℕ) × At local es p (Stands past c) past places q)
  unfolding gathered
  gathered-single p q k single l = (to, back)
    where
      all : ℕ
      all = get_or (gathered (used c) t.sets) p 0

      among : has (get_or (gathered (used c) t.sets) p 0) q ≡ some_below (λ i. has (set_at t p i) q) (used c)
      among =
          ap (λ (m : ℕ). has m q)
          (get_d-from (gathered_at (used c) t.sets) 0 policies p 0 k ∙ ap (gathered_at (used c) t.sets) (zero-add p))
          ∙ union-has (used c) (λ i. set_at t p i) q

      to : has (get_or (gathered (used c) t.sets) p 0) q ≡ true → (places : List ℕ) × At local es p (Stands past c) past places q
      to h =
          let (i, b, g) = some-found (used c) (λ i. has (set_at t p i) q) (sym among ∙ h) in
          (i ∷ [], (tracks p i q k single b l).0 g)

      back : ((places : List ℕ) × At local es p (Stands past c) past places q) → has (get_or (gathered (used c) t.sets) p 0) q ≡ true
      back (places, y) = go y.fits y.placed y.may
        where
          go : {xs places : List ℕ} → Instance es p xs → Placed (Stands past c) xs places → May local es p (Sees xs) past q
              → has (get_or (gathered (used c) t.sets) p 0) q ≡ true
          go (Instance.single n) (next_placed {i = i} h none_placed) m =
              among
              ∙ some_at (used c) (λ i. has (set_at t p i) q) i (stands-used c h)
              ((tracks p i q k single (stands-used c h) l).1 (one_placed n h local past q m))
          go (pair h) g m = absurd (single h)

-- What is gathered of all policies, of those about two resources from their blocks.
module _ (local : Bool) (es : List Edge) (v : EdgesOk es) (past : Past) (c : Created) (most : used c ≤ instances) (t : Tracked)
    (tracks : Tracks local es past c t) (lower : TracksBlock local es past c (pairs_of es).first (lower_block t.pairs))
    (upper : TracksBlock local es past c (pairs_of es).second (upper_block t.pairs))
    (e : t.possible ≡ with_gathered (pairs_of es) (used c) t.pairs (gathered (used c) t.sets)) where
  abbrev Found : ℕ → ℕ → ℕ → Type 0
  Found p q m = (has m q ≡ true) ↔ ((places : List ℕ) × At local es p (Stands past c) past places q)

  size : length (gathered (used c) t.sets) ≡ policies
  unfolding gathered
  size = length_from _ 0 policies

  kept : (p m : ℕ) → get_or (with_gathered (pairs_of es) (used c) t.pairs (gathered (used c) t.sets)) p 0 ≡ m → m ≡ possible_in t p
  kept p m d = sym d ∙ ap (λ (l : List ℕ). get_or l p 0) (sym e)

  of_pair : (p q : ℕ) → p < policies → q < states → PairPolicy es p
      → (p ≡ (pairs_of es).first) ⊎ (p ≡ (pairs_of es).second) → Found p q (possible_in t p)
  of_pair p q k l is (inl d) =
      subst (Found p q)
      (kept p _ (gathered-first (pairs_of es) (used c) t.pairs _ size p k d (λ w. blocks-differ es (subst (λ (n : ℕ). n < policies) d k) (sym d ∙ w))))
      (gather-tracks local es p is (Stands past c) past (used c) most (λ i x h. stands-used c h) (lower_block t.pairs)
      (subst (λ (n : ℕ). TracksPairs local es n (Stands past c) past (used c) (lower_block t.pairs)) (sym d)
      (lower (subst (λ (n : ℕ). n < policies) d k))) q l)
  of_pair p q k l is (inr d) =
      subst (Found p q) (kept p _ (gathered-second (pairs_of es) (used c) t.pairs _ size p k d))
      (gather-tracks local es p is (Stands past c) past (used c) most (λ i x h. stands-used c h) (upper_block t.pairs)
      (subst (λ (n : ℕ). TracksPairs local es n (Stands past c) past (used c) (upper_block t.pairs)) (sym d)
      (upper (subst (λ (n : ℕ). n < policies) d k))) q l)

  pub gathered-gathers : Gathers local es past c t
  gathered-gathers p q k l = go (is_pair es p) refl
    where
      go : (b : Bool) → is_pair es p ≡ b → Found p q (possible_in t p)
      go true i = let is = (decides-pair es p).0 i in of_pair p q k l is (has_block es v p k is)
      go false i =
          let none : PairPolicy es p → ⊥ = λ w. not-both (is_pair es p) ((decides-pair es p).1 w) i in
          subst (Found p q)
          (kept p _ (gathered-other (pairs_of es) (used c) t.pairs _ size p
          (λ d. none (subst (PairPolicy es) (sym d) (lower-pair es (subst (λ (n : ℕ). n < policies) d k))))
          (λ d. none (subst (PairPolicy es) (sym d) (upper-pair es (subst (λ (n : ℕ). n < policies) d k))))))
          (gathered-single local es past c t tracks p q k none l)

-- and is a byte where the sets are
pub gathered-bytes : (n : ℕ) (sets : List ℕ) → ((k : ℕ) → get_or sets k 0 < 256) → (p : ℕ) → get_or (gathered n sets) p 0 < 256
unfolding gathered
gathered-bytes n sets h p =
    from-below (gathered_at n sets) 256 (lit< tt) (λ p. union-lt n (λ i. get_or sets (p * instances + i) 0) (λ i l. h (p * instances + i))) 0
    policies p

pub both_bytes : (es : List Edge) (n : ℕ) (pairs possible : List ℕ) → length pairs ≡ pair_sets → ((k : ℕ) → get_or pairs k 0 < 256)
    → length possible ≡ policies → ((p : ℕ) → get_or possible p 0 < 256) → (p : ℕ) → get_or (with_gathered (pairs_of es) n pairs possible) p 0 < 256
unfolding with_gathered
both_bytes es n pairs possible size h e all p =
    put-below (set possible (pairs_of es).first low) (pairs_of es).second (gather_pairs n (upper_block pairs))
    (gather-byte n (upper_block pairs) (upper-below pairs size h))
    (put-below possible (pairs_of es).first low (gather-byte n (lower_block pairs) (lower-below pairs size h)) all) p
  where
    low : ℕ
    low = gather_pairs n (lower_block pairs)

    put-below : (l : List ℕ) (i m : ℕ) → m < 256 → ((p : ℕ) → get_or l p 0 < 256) → (p : ℕ) → get_or (set l i m) p 0 < 256
    put-below l i m b all p = go (eqb p i) refl (ltb i (length l)) refl
      where
        go : (c : Bool) → eqb p i ≡ c → (d : Bool) → ltb i (length l) ≡ d → get_or (set l i m) p 0 < 256
        go true c true d =
            subst (λ (n : ℕ). n < 256) (sym (ap (λ (k : ℕ). get_or (set l i m) k 0) (eqb-true p i c)
            ∙ get_or-set_same l i m 0 (ltb-true i (length l) d))) b
        go true c false d = subst (λ (k : List ℕ). get_or k p 0 < 256) (sym (set_out l i m (ltb-false i (length l) d))) (all p)
        go false c d f = subst (λ (n : ℕ). n < 256) (sym (get_or-set_other l i p m 0 (eqb-false p i c))) (all p)
