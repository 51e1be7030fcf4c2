-- The tables of an event that the moves of sets of states are made of tell the moves of each instance.
use Prim.Native.Nat.{ℕ, ◌+◌, ◌/◌, ◌%◌, ◌<◌}
use mathlib.Core.Path.{◌≡◌, refl, sym, ap, ◌∙◌, subst}
use mathlib.Core.Bool.{Bool, true, false, cond}
use mathlib.Core.List.{List}
use mathlib.Core.Logic.{◌↔◌}
use native.Mathlib.Omega.{arith}
use lib.Dec.{ltb, lit<}
use lib.ListN.{get_or, get_or-eq_default}
use borrow.Author.Tests.{eqb-true, eq-eqb, ltb-true, ltb-false}
use Rattle.usage.specs.Limits.{policies, states}
use Rattle.usage.specs.declared.Edge.{Edge}
use Rattle.usage.specs.Policy.{Moves, EdgesOk}
use Rattle.usage.proofs.Logic.{not-both}
use Rattle.usage.specs.Tables.{from}
use Rattle.usage.proofs.TableLaws.{length_from, get_d-from}
use Rattle.usage.proofs.PlacedLaws.{SeesAt}
use Rattle.automaton.specs.Mask.{has, single}
use Rattle.automaton.specs.Move.{image, move, fires_at, row_places, rows_at}
use Rattle.automaton.proofs.MaskLaws.{some_at, some-found, has-zero, union-has, has-single}
use Rattle.automaton.proofs.MoveLaws.{image-lt, moved-found, moved_at, ends_of}
use Rattle.automaton.proofs.PlaceLaws.{Seats, fires-seen, seen-fires, row-placed}
use Rattle.checker_account.specs.RowTable.{image_in}
use Rattle.checker_account.proofs.RowLaws.{Image}

module _ (es : List Edge) (edges : EdgesOk es) (p : ℕ) (small : p < policies) (us : List ℕ) (i a r : ℕ) (x y : Bool)
    (s : Seats us i x y) where
  -- where one state goes, and where the set of it alone does
  from-image : (q q' : ℕ) → q < states → has (image (fires_at p a r x y) es q) q' ≡ true
      → has (move (fires_at p a r x y) es (single q)) q' ≡ true
  unfolding move
  from-image q q' l h =
      union-has states (λ j. cond (has (single q) j) (image (fires_at p a r x y) es j) 0) q'
      ∙ some_at states (λ j. has (cond (has (single q) j) (image (fires_at p a r x y) es j) 0) q') q l
      (ap (λ (b : Bool). has (cond b (image (fires_at p a r x y) es q) 0) q') (has-single q q l l ∙ eq-eqb q q refl) ∙ h)

  to-image : (q q' : ℕ) → q < states → has (move (fires_at p a r x y) es (single q)) q' ≡ true
      → has (image (fires_at p a r x y) es q) q' ≡ true
  unfolding move
  to-image q q' l h =
      let g = some-found states (λ j. has (cond (has (single q) j) (image (fires_at p a r x y) es j) 0) q')
      (sym (union-has states (λ j. cond (has (single q) j) (image (fires_at p a r x y) es j) 0) q') ∙ h) in
      go g.0 g.1 (has (single q) g.0) refl g.2
    where
      go : (j : ℕ) → j < states → (b : Bool) → has (single q) j ≡ b
          → has (cond b (image (fires_at p a r x y) es j) 0) q' ≡ true
          → has (image (fires_at p a r x y) es q) q' ≡ true
      go j k true e g =
          let f : q ≡ j = eqb-true q j (sym (has-single q j l k) ∙ e) in
          ap (λ (i : ℕ). has (image (fires_at p a r x y) es i) q') f ∙ g
      go j k false e g = not-both (has 0 q') g (has-zero q')

  row-moves : (q q' : ℕ) → q < states → q' < states
      → (has (image_in (rows_at es) p a r x y q) q' ≡ true) ↔ Moves es p a (SeesAt us i r) q q'
  row-moves q q' l l' =
      let e = row-placed es a r x y p q small l in (
        (λ h.
            let (j, k, f, v) = moved-found es (ends_of edges) p a (SeesAt us i r) (fires_at p a r x y) (fires-seen p a us i r x y s)
            (seen-fires p a us i r x y s) (single q) q' l' (from-image q q' l (ap (λ (v : ℕ). has v q') (sym e) ∙ h)) in
            subst (λ (i₀ : ℕ). Moves es p a (SeesAt us i r) i₀ q') (sym (eqb-true q j (sym (has-single q j l k) ∙ f))) v),
        (λ v. ap (λ (v : ℕ). has v q') e ∙ to-image q q' l
            (moved_at es (ends_of edges) p a (SeesAt us i r) (fires_at p a r x y) (fires-seen p a us i r x y s) (seen-fires p a us i r x y s)
            (single q) q q' l (has-single q q l l ∙ eq-eqb q q refl) v)),
      )

pub event-image : (es : List Edge) → EdgesOk es → (p : ℕ) → p < policies → Image es p (image_in (rows_at es) p)
event-image es edges p small =
    record { right = λ us i a r x y s q q' l l'. row-moves es edges p small us i a r x y s q q' l l' }

-- its entries are bytes
pub rows-at-lt : (es : List Edge) (a r : ℕ) (x y : Bool) (k : ℕ) → get_or (rows_at es a r x y) k 0 < 256
unfolding rows_at
rows-at-lt es a r x y k = go (ltb k row_places) refl
  where
    go : (b : Bool) → ltb k row_places ≡ b → get_or (from (λ k. image (fires_at (k / states) a r x y) es (k % states)) 0 row_places) k 0 < 256
    go true b =
        subst (λ (n : ℕ). n < 256)
        (sym (get_d-from (λ k. image (fires_at (k / states) a r x y) es (k % states)) 0 row_places k 0 (ltb-true k row_places b)))
        (image-lt (fires_at ((0 + k) / states) a r x y) es ((0 + k) % states))
    go false b =
        let f : ℕ → ℕ = λ k. image (fires_at (k / states) a r x y) es (k % states) in
        let e = length_from f 0 row_places in
        let l = ltb-false k row_places b in
        subst (λ (n : ℕ). n < 256) (sym (get_or-eq_default (from f 0 row_places) 0 (omega arith))) (lit< tt)
