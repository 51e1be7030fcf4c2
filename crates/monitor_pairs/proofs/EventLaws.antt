-- An event, cell by cell: the run of all sets, then the row and the column of the event's place.
use Prim.Native.Nat.{ℕ, ◌+◌, ◌-◌, ◌*◌, ◌/◌, ◌%◌, ◌<◌, ◌≤◌}
use mathlib.Core.Path.{◌≡◌, refl, ap, ◌∙◌}
use mathlib.Core.Bool.{Bool, true, false, ◌&&◌, cond}
use mathlib.Core.List.{List}
use native.Mathlib.Omega.{arith}
use borrow.Author.Tests.{eqb-true, eqb-false, lt-ltb, ltb-true, ltb-false}
use lib.Dec.{eqb, ltb, leb}
use lib.ListN.{length, get_or, set}
use lib.Seq.{get_or-set_same, get_or-set_other}
use Rattle.usage.specs.Tables.{from}
use Rattle.usage.proofs.TableLaws.{length_from}
use Rattle.automaton.specs.Move.{move_by}
use Rattle.monitor_sets.specs.Instances.{instances}
use Rattle.monitor_pairs.specs.declared.Ways.{Ways}
use Rattle.monitor_pairs.specs.Pairs.{pair_places, pair_at, way_of, event_pairs}
use Rattle.monitor_pairs.specs.Code.{run_moved, line_moved, pair_row, column_of_lem, row_put, column_put}
use Rattle.monitor_pairs.proofs.RunLaws.{at_from, same_from, rows-places, row-places}

-- what is kept at one cell
module _ (rows sets : List ℕ) where
  pub run_at : (n k : ℕ) → k < pair_places → get_or (run_moved rows (n * instances) sets) k 0
      ≡ cond (ltb (k / instances) n) (move_by rows 0 (get_or sets k 0)) (get_or sets k 0)
  unfolding run_moved
  run_at n k h =
      at_from (λ k. cond (ltb k (n * instances)) (move_by rows 0 (get_or sets k 0)) (get_or sets k 0)) pair_places k h
      ∙ ap (λ (t : Bool). cond t (move_by rows 0 (get_or sets k 0)) (get_or sets k 0)) (rows-places k n)

  row_at : (s j : ℕ) → j < instances → get_or (line_moved rows (pair_row s sets)) j 0 ≡ move_by rows 0 (get_or sets (s + j) 0)
  unfolding line_moved pair_row
  row_at s j h =
      at_from (λ j. move_by rows 0 (get_or (from (λ j. get_or sets (s + j) 0) 0 instances) j 0)) instances j h
      ∙ ap (move_by rows 0) (at_from (λ j. get_or sets (s + j) 0) instances j h)

  column-at : (n at i : ℕ) → n ≤ instances → i < n → get_or (line_moved rows (column_of_lem n at sets)) i 0 ≡ move_by rows 0 (pair_at sets i at)
  unfolding line_moved column_of_lem
  column-at n at i h l =
      at_from (λ j. move_by rows 0 (get_or (from (λ i. cond (ltb i n) (pair_at sets i at) 0) 0 instances) j 0)) instances i (omega arith)
      ∙ ap (move_by rows 0) (at_from (λ i. cond (ltb i n) (pair_at sets i at) 0) instances i (omega arith)
      ∙ ap (λ (t : Bool). cond t (pair_at sets i at) 0) (lt-ltb i n l))

  column-size : (n at : ℕ) → length (line_moved rows (column_of_lem n at sets)) ≡ instances
  unfolding line_moved
  column-size n at = length_from (λ j. move_by rows 0 (get_or (column_of_lem n at sets) j 0)) 0 instances

module _ (w : Ways) (at n : ℕ) (sets : List ℕ) (h : n ≤ instances) (l : at < n) where
  own : ℕ
  own = move_by w.both 0 (get_or sets (at * instances + at) 0)

  abbrev run : List ℕ
  run = run_moved w.neither (n * instances) sets

  abbrev row : List ℕ
  row = line_moved w.first (pair_row (at * instances) sets)

  abbrev line : List ℕ
  line = line_moved w.second (column_of_lem n at sets)

  abbrev with_row : List ℕ
  with_row = row_put (at * instances) row instances run

  put-at : (k : ℕ) → k < pair_places → get_or with_row k 0 ≡ cond (eqb (k / instances) at) (get_or row (k - at * instances) 0) (get_or run k 0)
  unfolding row_put
  put-at k b =
      at_from (λ l. cond (leb (at * instances) l && ltb l (at * instances + instances)) (get_or row (l - at * instances) 0) (get_or run l 0))
      pair_places k b
      ∙ ap (λ (t : Bool). cond t (get_or row (k - at * instances) 0) (get_or run k 0)) (row-places k at)

  pub event-made : column_put at (set line at (move_by w.both 0 (get_or sets (at * instances + at) 0))) n with_row ≡ event_pairs w at n sets
  unfolding column_put event_pairs own
  event-made =
      same_from
      (λ k. cond (ltb (k / instances) n && eqb (k % instances) at) (get_or (set line at own) (k / instances) 0) (get_or with_row k 0))
      (λ k. cond (ltb (k / instances) n) (move_by (way_of w (eqb (k / instances) at) (eqb (k % instances) at)) 0 (get_or sets k 0))
      (get_or sets k 0)) pair_places
      (λ k b. ap (λ (m : ℕ). cond (ltb (k / instances) n && eqb (k % instances) at) (get_or (set line at own) (k / instances) 0) m)
      (put-at k b ∙ ap (λ (m : ℕ). cond (eqb (k / instances) at) (get_or row (k - at * instances) 0) m) (run_at w.neither sets n k b))
      ∙ go k b (ltb (k / instances) n) refl (eqb (k / instances) at) refl (eqb (k % instances) at) refl)
    where
      go : (k : ℕ) → k < pair_places → (b : Bool) → ltb (k / instances) n ≡ b → (x : Bool) → eqb (k / instances) at ≡ x → (y : Bool)
          → eqb (k % instances) at ≡ y
          → cond (b && y) (get_or (set line at own) (k / instances) 0)
          (cond x (get_or row (k - at * instances) 0) (cond b (move_by w.neither 0 (get_or sets k 0)) (get_or sets k 0)))
          ≡ cond b (move_by (way_of w x y) 0 (get_or sets k 0)) (get_or sets k 0)
      go k m true e true p true q =
          let i = eqb-true (k / instances) at p in
          let j = eqb-true (k % instances) at q in
          let z : at * instances + at ≡ k = omega arith in
          ap (λ (u : ℕ). get_or (set line at own) u 0) i
          ∙ get_or-set_same line at own 0 (omega (arith, column-size w.second sets n at))
          ∙ ap (λ (u : ℕ). move_by w.both 0 (get_or sets u 0)) z
      go k m true e false p true q =
          let j = eqb-true (k % instances) at q in
          let z : k / instances * instances + at ≡ k = omega arith in
          get_or-set_other line at (k / instances) own 0 (eqb-false (k / instances) at p)
          ∙ column-at w.second sets n at (k / instances) h (ltb-true (k / instances) n e)
          ∙ ap (λ (u : ℕ). move_by w.second 0 (get_or sets u 0)) z
      go k m true e true p false q =
          let i = eqb-true (k / instances) at p in
          let z : at * instances + (k - at * instances) ≡ k = omega arith in
          row_at w.first sets (at * instances) (k - at * instances) (omega arith)
          ∙ ap (λ (u : ℕ). move_by w.first 0 (get_or sets u 0)) z
      go k m true e false p false q = refl
      go k m false e true p y q =
          let i = eqb-true (k / instances) at p in
          let f = ltb-false (k / instances) n e in
          absurd (omega arith)
      go k m false e false p true q = refl
      go k m false e false p false q = refl
