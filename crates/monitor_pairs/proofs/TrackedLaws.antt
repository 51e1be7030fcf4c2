-- The sets of a pair policy hold what its instances may be in: at the start, and after each change. The laws of a step are those over the
-- list of places (`usage`: PlacedLaws, `automaton`: PlaceLaws), at lists of two.
use Prim.Native.Nat.{ℕ, ◌+◌, ◌*◌, ◌/◌, ◌%◌, ◌<◌, ◌≤◌}
use mathlib.Core.Path.{◌≡◌, refl, sym, ap, ap₂, subst, ◌∙◌}
use mathlib.Core.Bool.{Bool, true, false, cond}
use mathlib.Core.List.{List, [], ◌∷◌}
use mathlib.Core.Logic.{◌↔◌}
use native.Mathlib.Nat.{zero-add}
use native.Mathlib.Omega.{arith}
use borrow.Author.Tests.{eq-eqb, ne_eqb, eqb-true, eqb-false, lt-ltb, le-ltb, ltb-true, ltb-false}
use lib.Dec.{eqb, ltb, lit<}
use lib.ListN.{get_or, replicate}
use Rattle.usage.specs.declared.Edge.{Edge}
use Rattle.usage.specs.Limits.{states}
use Rattle.usage.specs.Policy.{PairPolicy, Instance, single, pair}
use Rattle.usage.specs.Past.{event, opening, Past, Open, May, start}
use Rattle.usage.specs.Placed.{Placed, none_placed, next_placed, At}
use Rattle.usage.specs.Tables.{from}
use Rattle.usage.proofs.PastLaws.{may-some}
use Rattle.usage.proofs.PlacedLaws.{Alone, Fresh, Has, at-create, at-reset}
use Rattle.automaton.specs.Mask.{has, union}
use Rattle.automaton.specs.Move.{image, move, move_by, fires_at}
use Rattle.automaton.proofs.MaskLaws.{has-pow, union-has, some_at, some-found}
use Rattle.automaton.proofs.MoveLaws.{Ends}
use Rattle.automaton.proofs.RowLaws.{union-ext}
use Rattle.automaton.proofs.PlaceLaws.{two-seats, Holds, holds-event}
use Rattle.monitor_sets.specs.Instances.{unseen, instances}
use Rattle.monitor_sets.specs.Sets.{start_set}
use Rattle.monitor_pairs.specs.Pairs.{pair_places, pair_at, way_of, event_pairs, gather_pairs, row_copied, create_pairs, reset_pairs}
use Rattle.monitor_pairs.specs.Tracked.{seat_in, TracksPairs, rows_for, event_ways}
use Rattle.monitor_pairs.proofs.RunLaws.{at_from, at-replicate}
use Rattle.monitor_pairs.proofs.GatherLaws.{event-at}
use Rattle.monitor_pairs.proofs.RetireLaws.{cell_row, cell-column}

pub seat-in : (n j : ℕ) → j < n → seat_in n j ≡ j
seat-in n j h = ap (λ (t : Bool). cond t j unseen) (lt-ltb j n h)

pub seat-out : (n j : ℕ) → n ≤ j → seat_in n j ≡ unseen
seat-out n j h = ap (λ (t : Bool). cond t j unseen) (le-ltb j n h)

-- every column is of a place in use
pub seat-used : (n j : ℕ) → unseen < n → seat_in n j < n
seat-used n j h = go (ltb j n) refl
  where
    go : (b : Bool) → ltb j n ≡ b → cond b j unseen < n
    go true e = ltb-true j n e
    go false e = h

-- ── Events ──

rows-move : (es : List Edge) (p a r : ℕ) (x y : Bool) (m : ℕ) → move_by (rows_for es p a r x y) 0 m ≡ move (fires_at p a r x y) es m
unfolding rows_for move_by move
rows-move es p a r x y m =
    union-ext states (λ q. cond (has m q) (get_or (from (λ q. image (fires_at p a r x y) es q) 0 states) (0 + q) 0) 0)
    (λ q. cond (has m q) (image (fires_at p a r x y) es q) 0)
    (λ q l. ap (λ (n : ℕ). cond (has m q) n 0) (ap (λ (k : ℕ). get_or (from (λ q. image (fires_at p a r x y) es q) 0 states) k 0)
    (zero-add q)
    ∙ at_from (λ q. image (fires_at p a r x y) es q) states q l))

-- a set moved by the rows of a way is moved by the edges
pub moved-way : (es : List Edge) (p a r : ℕ) (x y : Bool) (m : ℕ) → move_by (way_of (event_ways es p a r) x y) 0 m ≡ move (fires_at p a r x y)
    es m
unfolding event_ways
moved-way es p a r true true m = rows-move es p a r true true m
moved-way es p a r true false m = rows-move es p a r true false m
moved-way es p a r false true m = rows-move es p a r false true m
moved-way es p a r false false m = rows-move es p a r false false m

-- Each set moves by where the event's place is among its two.
pub event-tracks : (local : Bool) (es : List Edge) → Ends es → (p : ℕ) (stands : ℕ → ℕ → Type 0) (a at r : ℕ) → Alone stands at r
    → (at ≡ unseen → ⊥) → (past : Past) → ((places : List ℕ) (q : ℕ) → At local es p stands past places q → q < states) → (n : ℕ)
    → n ≤ instances → at < n → (sets : List ℕ) → TracksPairs local es p stands past n sets
    → TracksPairs local es p stands (event a r ∷ past) n (event_pairs (event_ways es p a r) at n sets)
event-tracks local es v p stands a at r alone d past small n most l sets held i j q h b k =
    (λ e. (after q k).0 (sym same ∙ e), λ y. same ∙ (after q k).1 y)
  where
    x : Bool
    x = eqb i at

    y : Bool
    y = eqb (seat_in n j) at

    after : Holds local es p stands (event a r ∷ past) (i ∷ seat_in n j ∷ []) (move (fires_at p a r x y) es (pair_at sets i j))
    after =
        holds-event local es v p stands a at r alone past (i ∷ seat_in n j ∷ []) x y (two-seats i (seat_in n j) at)
        (small (i ∷ seat_in n j ∷ [])) (pair_at sets i j) (λ q k. held i j q h b k)

    seen : (t : Bool) → ltb j n ≡ t → eqb j at ≡ eqb (cond t j unseen) at
    seen true e = refl
    seen false e =
        let z = ltb-false j n e in
        ne_eqb j at (λ w. omega arith) ∙ sym (ne_eqb unseen at (λ w. d (sym w)))

    same : has (pair_at (event_pairs (event_ways es p a r) at n sets) i j) q ≡ has (move (fires_at p a r x y) es (pair_at sets i j)) q
    same =
        ap (λ (m : ℕ). has m q)
        (event-at (event_ways es p a r) at n sets i j h most b
        ∙ moved-way es p a r (eqb i at) (eqb j at) (pair_at sets i j)
        ∙ ap (λ (t : Bool). move (fires_at p a r (eqb i at) t) es (pair_at sets i j)) (seen (ltb j n) refl))

-- ── Gathering ──

-- "Stored sets are gathered over all pairs": the union has what some instance, wherever it stands, may be in
pub gather-tracks : (local : Bool) (es : List Edge) (p : ℕ) → PairPolicy es p → (stands : ℕ → ℕ → Type 0) (past : Past) (n : ℕ) → n ≤
    instances
    → ((i x : ℕ) → stands i x → i < n) → (sets : List ℕ) → TracksPairs local es p stands past n sets → (q : ℕ) → q < states
    → (has (gather_pairs n sets) q ≡ true) ↔ ((places : List ℕ) × At local es p stands past places q)
unfolding gather_pairs
gather-tracks local es p is-pair stands past n most used sets held q k = (to, back)
  where
    row : ℕ → ℕ
    row i = union instances (λ j. pair_at sets i j)

    to : has (union n row) q ≡ true → (places : List ℕ) × At local es p stands past places q
    to e =
        let (i, h, f) = some-found n (λ i. has (row i) q) (sym (union-has n row q) ∙ e) in
        let (j, l, g) = some-found instances (λ j. has (pair_at sets i j) q) (sym (union-has instances (λ j. pair_at sets i j) q) ∙ f) in
        (i ∷ seat_in n j ∷ [], (held i j q h l k).0 g)

    both : {xs places : List ℕ} → Instance es p xs → Placed stands xs places → At local es p stands past places q → has (union n row) q
        ≡ true
    both (single c) g y = absurd (c is-pair)
    both (pair c) (next_placed {x = x} {i = i} g (next_placed {x = z} {i = j} f none_placed)) y =
        let h = used i x g in
        let l = used j z f in
        union-has n row q
        ∙ some_at n (λ i. has (row i) q) i h
        (union-has instances (λ j. pair_at sets i j) q
        ∙ some_at instances (λ j. has (pair_at sets i j) q) j (omega arith)
        ((held i j q h (omega arith) k).1 (subst (λ (t : ℕ). At local es p stands past (i ∷ t ∷ []) q) (sym (seat-in n j l)) y)))

    back : (places : List ℕ) × At local es p stands past places q → has (union n row) q ≡ true
    back (places, y) = both y.fits y.placed y

-- ── Creations ──

copied_at : (source to : ℕ) (sets : List ℕ) (i j : ℕ) → i < instances → j < instances
    → pair_at (row_copied source to sets) i j ≡ pair_at sets (cond (eqb i to) source i) j
unfolding row_copied
copied_at source to sets i j h l =
    at_from (λ k. cond (eqb (k / instances) to) (pair_at sets source (k % instances)) (get_or sets k 0)) pair_places (i * instances + j)
    (omega arith)
    ∙ ap₂ (λ (u v : ℕ). cond (eqb u to) (pair_at sets source v) (pair_at sets i j)) (cell_row i j l) (cell-column i j l) ∙ go (eqb i to)
  where
    go : (b : Bool) → cond b (pair_at sets source j) (pair_at sets i j) ≡ pair_at sets (cond b source i) j
    go true = refl
    go false = refl

-- "A create copies the unused partner's sets on both sides": place n stands for r alone, and has as first and as second place what that of
-- the unseen ones had.
pub create-tracks : (stands : ℕ → ℕ → Type 0) (past : Past) (r y n : ℕ) (fresh : Fresh stands past r y unseen) (local : Bool) (es :
    List Edge)
    (p : ℕ) (sets : List ℕ) → unseen < n → n < instances → TracksPairs local es p stands past n sets
    → TracksPairs local es p (Has stands past r y unseen n fresh) past (n + 1) (create_pairs n sets)
unfolding create_pairs
create-tracks stands past r y n fresh local es p sets u most held i j q h b k =
    (λ e. made.1 (to-seat (old.0 (sym same ∙ e))), λ z. same ∙ old.1 (from-seat (made.0 z)))
  where
    was : ℕ → ℕ
    was i = cond (eqb i n) unseen i

    -- the column's place, before
    seat : was (seat_in (n + 1) j) ≡ seat_in n j
    seat = go (ltb j n) refl (eqb j n) refl
      where
        go : (t : Bool) → ltb j n ≡ t → (c : Bool) → eqb j n ≡ c → was (seat_in (n + 1) j) ≡ cond t j unseen
        go true e c f =
            let z = ltb-true j n e in
            ap was (seat-in (n + 1) j (omega arith)) ∙ ap (λ (c : Bool). cond c unseen j) (ne_eqb j n (λ w. omega arith))
        go false e true f = let z = eqb-true j n f in ap was (seat-in (n + 1) j (omega arith)) ∙ ap (λ (c : Bool). cond c unseen j) f
        go false e false f =
            let z = ltb-false j n e in
            let w = eqb-false j n f in
            ap was (seat-out (n + 1) j (omega (arith, w, z))) ∙ ap (λ (c : Bool). cond c unseen unseen) (ne_eqb unseen n (λ w. omega
            arith))

    inside : was i < n
    inside = go (eqb i n) refl
      where
        go : (c : Bool) → eqb i n ≡ c → cond c unseen i < n
        go true e = u
        go false e = let z = eqb-false i n e in omega (arith, z)

    old : (has (pair_at sets (was i) j) q ≡ true) ↔ At local es p stands past (was i ∷ seat_in n j ∷ []) q
    old = held (was i) j q inside b k

    made : At local es p (Has stands past r y unseen n fresh) past (i ∷ seat_in (n + 1) j ∷ []) q
        ↔ At local es p stands past (was i ∷ was (seat_in (n + 1) j) ∷ []) q
    made = at-create stands past r y unseen n fresh local es p (i ∷ seat_in (n + 1) j ∷ []) q

    same : has (pair_at (row_copied unseen n sets) i j) q ≡ has (pair_at sets (was i) j) q
    same = ap (λ (m : ℕ). has m q) (copied_at unseen n sets i j (omega arith) b)

    to-seat : At local es p stands past (was i ∷ seat_in n j ∷ []) q → At local es p stands past (was i ∷ was (seat_in (n + 1) j) ∷ []) q
    to-seat z = subst (λ (t : ℕ). At local es p stands past (was i ∷ t ∷ []) q) (sym seat) z

    from-seat : At local es p stands past (was i ∷ was (seat_in (n + 1) j) ∷ []) q → At local es p stands past (was i ∷ seat_in n j ∷ []) q
    from-seat z = subst (λ (t : ℕ). At local es p stands past (was i ∷ t ∷ []) q) seat z

-- ── The start, and openings that reset ──

-- state 0 alone
start_has : (q : ℕ) → q < states → has start_set q ≡ eqb 0 q
start_has q h = has-pow 0 q (lit< tt) h

module _ (es : List Edge) (p : ℕ) (is-pair : PairPolicy es p) (stands : ℕ → ℕ → Type 0) (n : ℕ) (u : unseen < n)
    (someone : (i : ℕ) → i < n → (x : ℕ) × stands i x) where
  -- every two places in use are those of some instance
  some_at_lem : (local : Bool) (past : Past) (i j : ℕ) → i < n → j < n → (q : ℕ) × At local es p stands past (i ∷ j ∷ []) q
  some_at_lem local past i j h l =
      let (x, a) = someone i h in
      let (y, b) = someone j l in
      let (q, m) = may-some local es p (x ∷ y ∷ []) past in
      (q, record { resources = x ∷ y ∷ []; fits = pair is-pair; placed = next_placed a (next_placed b none_placed); may = m })

  pub start-tracks : (local : Bool) → n ≤ instances → TracksPairs local es p stands [] n (replicate pair_places start_set)
  start-tracks local most i j q h b k = (
    λ e. subst (λ (t : ℕ). At local es p stands [] (i ∷ seat_in n j ∷ []) t)
        (first (some_at_lem local [] i (seat_in n j) h (seat-used n j u)).1 ∙ eqb-true 0 q (sym same ∙ e))
        (some_at_lem local [] i (seat_in n j) h (seat-used n j u)).1,
    λ y. same ∙ eq-eqb 0 q (sym (first y)),
  )
    where
      begin : {sees : ℕ → ℕ → ℕ → Type 0} {t : ℕ} → May local es p sees [] t → t ≡ 0
      begin start = refl

      first : {t : ℕ} → At local es p stands [] (i ∷ seat_in n j ∷ []) t → t ≡ 0
      first y = begin y.may

      same : has (pair_at (replicate pair_places start_set) i j) q ≡ eqb 0 q
      same = ap (λ (m : ℕ). has m q) (at-replicate pair_places start_set (i * instances + j) (omega arith)) ∙ start_has q k

  -- "all its instances go back to state 0" (02, L7)
  pub reset-tracks : (past : Past) (s : ℕ) → s ≡ p → (Open p past → ⊥) → n ≤ instances → (sets : List ℕ)
      → TracksPairs true es p stands (opening s ∷ past) n (reset_pairs n sets)
  unfolding reset_pairs
  reset-tracks past s e d most sets i j q h b k =
      let anew = at-reset es p stands s past (i ∷ seat_in n j ∷ []) q e d in (
        λ f. anew.1 (sym (eqb-true 0 q (sym same ∙ f)), some_at_lem true past i (seat_in n j) h (seat-used n j u)),
        λ y. same
            ∙ eq-eqb 0 q (sym (anew.0 y).0),
      )
    where
      same : has (pair_at (from (λ k. cond (ltb (k / instances) n) start_set (get_or sets k 0)) 0 pair_places) i j) q ≡ eqb 0 q
      same =
          ap (λ (m : ℕ). has m q)
          (at_from (λ k. cond (ltb (k / instances) n) start_set (get_or sets k 0)) pair_places (i * instances + j) (omega arith)
          ∙ ap (λ (t : Bool). cond t start_set (pair_at sets i j)) (lt-ltb ((i * instances + j) / instances) n (omega (
            arith,
            cell_row i
                j b,
          ))))
          ∙ start_has q k
