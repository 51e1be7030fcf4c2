-- The sets of a pair policy after a retiring hold what its instances may be in. One law says it of a side, and it is used for both.
use Prim.Native.Nat.{ℕ, ◌+◌, ◌-◌, ◌*◌, ◌/◌, ◌%◌, ◌<◌, ◌≤◌}
use mathlib.Core.Path.{◌≡◌, refl, sym, ap, ap₂, subst, ◌∙◌}
use mathlib.Core.Bool.{Bool, true, false, ◌||◌, cond}
use mathlib.Core.List.{List, [], ◌∷◌}
use mathlib.Core.Logic.{◌⊎◌, inl, inr, ◌↔◌}
use native.Mathlib.Nat.{le_refl}
use native.Mathlib.Omega.{arith}
use borrow.Author.Tests.{ne_eqb, eqb-true, eqb-false, lt-ltb, le-ltb, ltb-true, ltb-false, le-leb, lt-leb}
use lib.Bits.{bit_or}
use lib.Dec.{eqb, ltb, leb}
use lib.ListN.{get_or}
use Rattle.usage.specs.declared.Edge.{Edge}
use Rattle.usage.specs.Past.{Past}
use Rattle.usage.specs.Placed.{At}
use Rattle.usage.proofs.Logic.{by_cases, or_left, or_right, or_cases}
use Rattle.usage.proofs.PlacedLaws.{Takes, none-taken, next-taken, at-taken}
use Rattle.automaton.specs.Mask.{has}
use Rattle.automaton.proofs.MaskLaws.{has-or}
use Rattle.monitor_sets.specs.Instances.{unseen, retirees, first_created_lem, instances}
use Rattle.monitor_sets.proofs.RetiredLaws.{lowered}
use Rattle.monitor_pairs.specs.Pairs.{pair_places, pair_at, taken, retire_pairs}
use Rattle.monitor_pairs.specs.Tracked.{seat_in, TracksPairs}
use Rattle.monitor_pairs.proofs.RunLaws.{at_from}
use Rattle.monitor_pairs.proofs.RetireLaws.{cell_row, cell-column}
use Rattle.monitor_pairs.proofs.TrackedLaws.{seat-in, seat-out}

-- Once place `at` is retired, place i takes from place s: that of the retired ones from its own and from `at`, the others from where they
-- were before they moved up.
abbrev pub Gives : ℕ → ℕ → ℕ → Type 0
Gives at i s = ((i ≡ retirees) × ((s ≡ retirees) ⊎ (s ≡ at))) ⊎ ((i ≡ lowered at s) × (s ≡ at → ⊥) × (s ≡ retirees → ⊥))

-- ── One side ──

-- Where n of w places are in use, and the sets f hold what P says of the place that each is of.
module _ (at n w : ℕ) (first : first_created_lem ≤ at) (l : at < n) (h : n ≤ w) where
  -- where place j has its set from
  abbrev source : ℕ → ℕ
  source j = cond (leb at j) (cond (eqb j (w - 1)) unseen (j + 1)) j

  record Sourced (j : ℕ) : Type 0 where
    inside : source j < w
    gives : Gives at (seat_in (n - 1) j) (seat_in n (source j))
    only : (s : ℕ) → Gives at (seat_in (n - 1) j) s → s ≡ seat_in n (source j)

  -- what is lowered to i, above and below
  from-lowered : (i s : ℕ) → i ≡ lowered at s → (s ≡ at → ⊥) → ((i < at) × (s ≡ i)) ⊎ ((at ≤ i) × (s ≡ i + 1))
  from-lowered i s e d = go (ltb at s) refl
    where
      go : (b : Bool) → ltb at s ≡ b → ((i < at) × (s ≡ i)) ⊎ ((at ≤ i) × (s ≡ i + 1))
      go true q =
          let z = ltb-true at s q in
          let y : i ≡ s - 1 = e ∙ ap (λ (b : Bool). cond b (s - 1) s) q in
          inr (omega arith, omega arith)
      go false q =
          let z = ltb-false at s q in
          let y : i ≡ s = e ∙ ap (λ (b : Bool). cond b (s - 1) s) q in
          inl (omega (arith, d), sym y)

  below-lowered : (s : ℕ) → s < at → s ≡ lowered at s
  below-lowered s z = sym (ap (λ (b : Bool). cond b (s - 1) s) (le-ltb at s (omega arith)))

  above-lowered : (s : ℕ) → at < s → s - 1 ≡ lowered at s
  above-lowered s z = sym (ap (λ (b : Bool). cond b (s - 1) s) (lt-ltb at s z))

  -- that of another seat t is one alone
  only_one : (t u : ℕ) → (t ≡ retirees → ⊥) → ((t < at) × (u ≡ t)) ⊎ ((at ≤ t) × (u ≡ t + 1)) → (s : ℕ) → Gives at t s → s ≡ u
  only_one t u d w s (inl (e, g)) = absurd (d e)
  only_one t u d w s (inr (e, f, g)) = by_cases (from-lowered t s e f)
      (λ (a, b). by_cases w (λ (c, x). b ∙ sym x) (λ (c, x). absurd (omega arith)))
      (λ (a, b). by_cases w (λ (c, x). absurd (omega arith)) (λ (c, x). b ∙ sym x))

  sourced : (j : ℕ) → j < w → (j ≡ retirees → ⊥) → Sourced j
  sourced j b d = go (ltb j at) refl (ltb j (n - 1)) refl (eqb j (w - 1)) refl
    where
      -- the source u of j, at the seats t and v
      made : (t u v : ℕ) → u < w → source j ≡ u → seat_in (n - 1) j ≡ t → seat_in n u ≡ v → (t ≡ retirees → ⊥)
          → ((t < at) × (v ≡ t)) ⊎ ((at ≤ t) × (v ≡ t + 1)) → Sourced j
      made t u v k e p q c y = record {
        inside = subst (λ (x : ℕ). x < w) (sym e) k;
        gives = subst (λ (x : ℕ). Gives at x (seat_in n (source j))) (sym p)
            (subst (λ (x : ℕ). Gives at t (seat_in n x)) (sym e) (subst (λ (x : ℕ). Gives at t x) (sym q) (given y)));
        only = λ s g. only_one t v c y s (subst (λ (x : ℕ). Gives at x s) p g) ∙ sym q ∙ ap (seat_in n) (sym e);
      }
        where
          given : ((t < at) × (v ≡ t)) ⊎ ((at ≤ t) × (v ≡ t + 1)) → Gives at t v
          given (inl (a, x)) = inr (below-lowered t a ∙ ap (lowered at) (sym x), λ z. omega arith, λ z. c (sym x ∙ z))
          given (inr (a, x)) =
              let m : t ≡ v - 1 = omega arith in
              inr (m ∙ above-lowered v (omega arith), λ z. omega arith, λ z. omega arith)

      go : (x : Bool) → ltb j at ≡ x → (y : Bool) → ltb j (n - 1) ≡ y → (z : Bool) → eqb j (w - 1) ≡ z → Sourced j
      go true p y q z r =
          let a = ltb-true j at p in
          made j j j b (ap (λ (t : Bool). cond t (cond (eqb j (w - 1)) unseen (j + 1)) j) (lt-leb at j a)) (seat-in (n - 1) j (omega
          arith))
          (seat-in n j (omega arith)) d (inl (a, refl))
      go false p true q z r =
          let a = ltb-false j at p in
          let c = ltb-true j (n - 1) q in
          made j (j + 1) (j + 1) (omega arith)
          (ap₂ (λ (t u : Bool). cond t (cond u unseen (j + 1)) j) (le-leb at j a) (ne_eqb j (w - 1) (λ e. omega arith)))
          (seat-in (n - 1) j c) (seat-in n (j + 1) (omega arith)) d (inr (a, refl))
      go false p false q true r =
          let a = ltb-false j at p in
          let c = ltb-false j (n - 1) q in
          made unseen unseen unseen (omega arith) (ap₂ (λ (t u : Bool). cond t (cond u unseen (j + 1)) j) (le-leb at j a) r)
          (seat-out (n - 1) j c) (seat-in n unseen (omega arith)) (λ e. omega arith) (inl (omega arith, refl))
      go false p false q false r =
          let a = ltb-false j at p in
          let c = ltb-false j (n - 1) q in
          let e = eqb-false j (w - 1) r in
          made unseen (j + 1) unseen (omega (arith, e, b)) (ap₂ (λ (t u : Bool). cond t (cond u unseen (j + 1)) j) (le-leb at j a) r)
          (seat-out (n - 1) j c) (seat-out n (j + 1) (omega arith)) (λ e. omega arith) (inl (omega arith, refl))

  -- what the set at place j holds then: what those that it takes from held
  pub side-taken : (f : ℕ → ℕ) (q : ℕ) (P : ℕ → Type 0) → ((j : ℕ) → j < w → (has (f j) q ≡ true) ↔ P (seat_in n j)) → (j : ℕ) → j < w
      → (has (taken at (w - 1) f j) q ≡ true) ↔ ((s : ℕ) × Gives at (seat_in (n - 1) j) s × P s)
  side-taken f q P held j b = go (eqb j retirees) refl
    where
      joins : has (bit_or (f retirees) (f at)) q ≡ (has (f retirees) q || has (f at) q)
      joins = has-or (f retirees) (f at) q

      at_retirees : (has (f retirees) q ≡ true) ↔ P retirees
      at_retirees =
          let z = held retirees (omega arith) in
          let e = seat-in n retirees (omega arith) in
          (λ x. subst P e (z.0 x), λ x. z.1 (subst P (sym e) x))

      at_at : (has (f at) q ≡ true) ↔ P at
      at_at =
          let z = held at (omega arith) in
          let e = seat-in n at l in
          (λ x. subst P e (z.0 x), λ x. z.1 (subst P (sym e) x))

      own : j ≡ retirees → (has (bit_or (f retirees) (f at)) q ≡ true) ↔ ((s : ℕ) × Gives at (seat_in (n - 1) j) s × P s)
      own e = (to, back)
        where
          seat : seat_in (n - 1) j ≡ retirees
          seat = seat-in (n - 1) j (omega arith) ∙ e

          to : has (bit_or (f retirees) (f at)) q ≡ true → (s : ℕ) × Gives at (seat_in (n - 1) j) s × P s
          to x = by_cases (or_cases (has (f retirees) q) (has (f at) q) (sym joins ∙ x))
              (λ y. (retirees, inl (seat, inl refl), at_retirees.0 y)) (λ y. (at, inl (seat, inr refl), at_at.0 y))

          back : (s : ℕ) × Gives at (seat_in (n - 1) j) s × P s → has (bit_or (f retirees) (f at)) q ≡ true
          back (s, inl (x, inl y), z) = joins ∙ or_left (has (f retirees) q) (has (f at) q) (at_retirees.1 (subst P y z))
          back (s, inl (x, inr y), z) = joins ∙ or_right (has (f retirees) q) (has (f at) q) (at_at.1 (subst P y z))
          back (s, inr (x, d, g), z) = by_cases (from-lowered (seat_in (n - 1) j) s x d)
              (λ (a, y). absurd (g (y ∙ seat))) (λ (a, y). absurd (omega (arith, a, seat)))

      go : (c : Bool) → eqb j retirees ≡ c
          → (has (cond c (bit_or (f retirees) (f at)) (f (source j))) q ≡ true) ↔ ((s : ℕ) × Gives at (seat_in (n - 1) j) s × P s)
      go true e = own (eqb-true j retirees e)
      go false e =
          let c = sourced j b (eqb-false j retirees e) in
          let z = held (source j) c.inside in
          (λ x. (seat_in n (source j), c.gives, z.0 x), λ (s, g, y). z.1 (subst P (c.only s g) y))

-- ── Both sides ──

retire-at : (at n : ℕ) (sets : List ℕ) (i j : ℕ) → i < n → n ≤ instances → j < instances
    → pair_at (retire_pairs at n sets) i j ≡ taken at (n - 1) (λ i. taken at (instances - 1) (pair_at sets i) j) i
unfolding retire_pairs
retire-at at n sets i j h most b =
    at_from (λ k. cond (ltb (k / instances) n)
    (taken at (n - 1) (λ i. taken at (instances - 1) (pair_at sets i) (k % instances)) (k / instances)) (get_or sets k 0)) pair_places
    (i * instances + j) (omega arith)
    ∙ ap₂ (λ (u v : ℕ). cond (ltb u n) (taken at (n - 1) (λ i. taken at (instances - 1) (pair_at sets i) v) u) (pair_at sets i j))
    (cell_row i j b)
    (cell-column i j b)
    ∙ ap (λ (t : Bool). cond t (taken at (n - 1) (λ i. taken at (instances - 1) (pair_at sets i) j) i) (pair_at sets i j)) (lt-ltb i n h)

-- "Retired resources join one set per partner and side, unused partners included, and one set where both are retired."
pub retire-tracks : (local : Bool) (es : List Edge) (p : ℕ) (stands now : ℕ → ℕ → Type 0) (past : Past) (at n : ℕ) → first_created_lem ≤ at
    → at < n → n ≤ instances → ((i x : ℕ) → now i x ↔ ((s : ℕ) × Gives at i s × stands s x)) → (sets : List ℕ)
    → TracksPairs local es p stands past n sets → TracksPairs local es p now past (n - 1) (retire_pairs at n sets)
retire-tracks local es p stands now past at n first l most same sets held i j q h b k = (
  λ e. let (s, g, (t, f, y)) = rows.0 (sym set_is ∙ e) in
      take.1 (s ∷ t ∷ [], next-taken (subst (λ (x : ℕ). Gives at x s) seat g) (next-taken f none-taken), y),
  λ y. let (before, ts, z) = take.0 y in set_is ∙ rows.1 (split ts z),
)
  where
    -- some instance at the first place s, and at a second place that column j takes from
    Partner : ℕ → Type 0
    Partner s = (t : ℕ) × Gives at (seat_in (n - 1) j) t × At local es p stands past (s ∷ t ∷ []) q

    take : At local es p now past (i ∷ seat_in (n - 1) j ∷ []) q
        ↔ ((before : List ℕ) × Takes (Gives at) (i ∷ seat_in (n - 1) j ∷ []) before × At local es p stands past before q)
    take = at-taken local es p stands now (Gives at) same past (i ∷ seat_in (n - 1) j ∷ []) q

    seat : seat_in (n - 1) i ≡ i
    seat = seat-in (n - 1) i h

    set_is : has (pair_at (retire_pairs at n sets) i j) q ≡ has (taken at (n - 1) (λ i. taken at (instances - 1) (pair_at sets i) j) i) q
    set_is = ap (λ (m : ℕ). has m q) (retire-at at n sets i j (omega arith) most b)

    -- the columns of row s
    columns : (s : ℕ) → s < n → (has (taken at (instances - 1) (pair_at sets s) j) q ≡ true) ↔ Partner s
    columns s c =
        side-taken at n instances first l most (pair_at sets s) q (λ t. At local es p stands past (s ∷ t ∷ []) q)
        (λ j b. held s j q c b k) j b

    rows : (has (taken at (n - 1) (λ i. taken at (instances - 1) (pair_at sets i) j) i) q ≡ true)
        ↔ ((s : ℕ) × Gives at (seat_in (n - 1) i) s × Partner s)
    rows =
        side-taken at n n first l (le_refl n) (λ i. taken at (instances - 1) (pair_at sets i) j) q Partner
        (λ s c. (
          λ x. subst Partner (sym (seat-in n s c)) ((columns s c).0 x),
          λ x. (columns s c).1 (subst Partner (seat-in n s c) x),
        )) i (omega arith)

    split : {before : List ℕ} → Takes (Gives at) (i ∷ seat_in (n - 1) j ∷ []) before → At local es p stands past before q
        → (s : ℕ) × Gives at (seat_in (n - 1) i) s × Partner s
    split (next-taken {j = s} g (next-taken {j = t} f none-taken)) z = (s, subst (λ (x : ℕ). Gives at x s) (sym seat) g, (t, f, z))
