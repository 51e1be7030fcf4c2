-- The set that is kept for the instances at some places, moved by an event: it holds what they may be in after it. Over the list of places,
-- for policies about one resource and about two alike.
use Prim.Native.Nat.{ℕ, zero, suc, ◌+◌, ◌*◌, ◌/◌, ◌%◌, ◌<◌}
use mathlib.Core.Path.{◌≡◌, refl, ap, subst, ◌∙◌}
use mathlib.Core.Bool.{Bool, true, false, ◌&&◌}
use mathlib.Core.List.{List, [], ◌∷◌}
use mathlib.Core.Logic.{◌↔◌}
use mathlib.Core.Option.{Option, some, some-injective}
use lib.Dec.{eqb}
use native.Mathlib.Omega.{arith}
use lib.ListN.{get_or}
use borrow.Author.Tests.{eq-eqb, eqb-true}
use Rattle.usage.specs.declared.Edge.{Edge}
use Rattle.usage.specs.Limits.{policies, states}
use Rattle.usage.specs.Policy.{Place}
use Rattle.usage.specs.Past.{event, Past}
use Rattle.usage.proofs.Logic.{none-some, false-true, and_left, and_right, and_both}
use Rattle.usage.specs.Placed.{At}
use Rattle.usage.proofs.TableLaws.{get_d-from, from-ext}
use Rattle.usage.proofs.PlacedLaws.{SeesAt, named, own, other, second, Alone, at-event}
use Rattle.automaton.specs.Mask.{has}
use Rattle.automaton.specs.Move.{image, move, labelled, fires, labelled_at, fires_at, move_mask, row_places, rows_of, rows_at}
use Rattle.automaton.proofs.SameLaws.{image-same, move_same}
use Rattle.automaton.proofs.MoveLaws.{Ends, Matches, moved-found, moved_at}

-- with one place, these are the labels of `labelled`
pub labelled-one : (k who : ℕ) (mine : Bool) (r : ℕ) → labelled_at k who mine false r ≡ labelled k who mine r
labelled-one zero who mine r = refl
labelled-one (suc zero) who mine r = refl
labelled-one (suc (suc zero)) who mine r = refl
labelled-one (suc (suc (suc zero))) who mine r = refl
labelled-one (suc (suc (suc (suc k)))) who mine r = refl

fires-one : (p a r : ℕ) (mine : Bool) (e : Edge) → fires_at p a r mine false e ≡ fires p a r mine e
fires-one p a r mine e =
    ap (λ (b : Bool). (eqb e.policy p && eqb e.action a) && b) (labelled-one e.on e.who mine r)

pub moved-one : (es : List Edge) (p a r : ℕ) (mine : Bool) (m : ℕ) → move (fires_at p a r mine false) es m ≡ move_mask es p a r mine m
unfolding move_mask
moved-one es p a r mine m = move_same (fires_at p a r mine false) (fires p a r mine) es (λ e k. fires-one p a r mine e) m

pub rows-one : (es : List Edge) (a r : ℕ) (mine : Bool) → rows_at es a r mine false ≡ rows_of es a r mine
unfolding rows_at rows_of
rows-one es a r mine =
    from-ext (λ k. image (fires_at (k / states) a r mine false) es (k % states)) (λ k. image (fires (k / states) a r mine) es (k % states)) 0
    row_places
    (λ k l. image-same (fires_at ((0 + k) / states) a r mine false) (fires ((0 + k) / states) a r mine) es
    (λ e m. fires-one ((0 + k) / states) a r mine e) ((0 + k) % states))

-- the row of state q of policy p
pub row-placed : (es : List Edge) (a r : ℕ) (x y : Bool) (p q : ℕ) → p < policies → q < states
    → get_or (rows_at es a r x y) (p * states + q) 0 ≡ image (fires_at p a r x y) es q
unfolding rows_at
row-placed es a r x y p q h l =
    let k : (0 + (p * states + q)) / states ≡ p = omega arith in
    let j : (0 + (p * states + q)) % states ≡ q = omega arith in
    get_d-from (λ k. image (fires_at (k / states) a r x y) es (k % states)) 0 row_places (p * states + q) 0 (omega arith)
    ∙ ap (λ (n : ℕ). image (fires_at n a r x y) es ((0 + (p * states + q)) % states)) k
    ∙ ap (λ (n : ℕ). image (fires_at p a r x y) es n) j

-- the two tests say whether the first and the second place is i, and there are no more
pub record Seats (places : List ℕ) (i : ℕ) (first last : Bool) : Type 0 where
  pub is-first : (first ≡ true) ↔ Place places 0 i
  pub is-second : (last ≡ true) ↔ Place places 1 i
  pub no_more : (j : ℕ) → Place places (suc (suc j)) i → ⊥

seat : (j i : ℕ) → (eqb j i ≡ true) ↔ (some j ≡ some i)
seat j i = (λ e. ap {B = Option ℕ} some (eqb-true j i e), λ e. eq-eqb j i (some-injective j i e))

pub one-seat : (j i : ℕ) → Seats (j ∷ []) i (eqb j i) false
one-seat j i = record { is-first = seat j i; is-second = (λ e. false-true e, λ e. none-some e); no_more = λ k e. none-some e }

pub two-seats : (j k i : ℕ) → Seats (j ∷ k ∷ []) i (eqb j i) (eqb k i)
two-seats j k i = record { is-first = seat j i; is-second = seat k i; no_more = λ l e. none-some e }

nowhere : (places : List ℕ) (i : ℕ) → Seats places i false false → (j : ℕ) → Place places j i → ⊥
nowhere places i s zero h = false-true (s.is-first.1 h)
nowhere places i s (suc zero) h = false-true (s.is-second.1 h)
nowhere places i s (suc (suc j)) h = s.no_more j h

labelled-seen : (k who : ℕ) (places : List ℕ) (i r : ℕ) (a b : Bool) → Seats places i a b → labelled_at k who a b r ≡ true
    → SeesAt places i r k who
labelled-seen zero who places i r a b s h = subst (λ (w : ℕ). SeesAt places i r 0 w) (eqb-true r who h) named
labelled-seen (suc zero) who places i r a b s h = own (s.is-first.0 h)
labelled-seen (suc (suc zero)) who places i r a true s h = false-true h
labelled-seen (suc (suc zero)) who places i r true false s h = false-true h
labelled-seen (suc (suc zero)) who places i r false false s h = other (nowhere places i s)
labelled-seen (suc (suc (suc zero))) who places i r a b s h = second (s.is-second.0 h)
labelled-seen (suc (suc (suc (suc k)))) who places i r a b s h = false-true h

seen-labelled : {k who : ℕ} {places : List ℕ} {i r : ℕ} (a b : Bool) → Seats places i a b → SeesAt places i r k who
    → labelled_at k who a b r ≡ true
seen-labelled {r = r} a b s named = eq-eqb r r refl
seen-labelled a b s (own h) = s.is-first.1 h
seen-labelled a true s (other d) = absurd (d 1 (s.is-second.0 refl))
seen-labelled true false s (other d) = absurd (d 0 (s.is-first.0 refl))
seen-labelled false false s (other d) = refl
seen-labelled a b s (second h) = s.is-second.1 h

module _ (p a : ℕ) (places : List ℕ) (i r : ℕ) (x y : Bool) (s : Seats places i x y) where
  pub fires-seen : (e : Edge) → fires_at p a r x y e ≡ true → Matches p a (SeesAt places i r) e
  fires-seen e h =
      let b : Bool = eqb e.policy p && eqb e.action a in
      let l : Bool = labelled_at e.on e.who x y r in
      record {
        policy = eqb-true e.policy p (and_left (eqb e.policy p) (eqb e.action a) (and_left b l h));
        action = eqb-true e.action a (and_right (eqb e.policy p) (eqb e.action a) (and_left b l h));
        label = labelled-seen e.on e.who places i r x y s (and_right b l h);
      }

  pub seen-fires : (e : Edge) → Matches p a (SeesAt places i r) e → fires_at p a r x y e ≡ true
  seen-fires e m =
      and_both (eqb e.policy p && eqb e.action a) (labelled_at e.on e.who x y r)
      (and_both (eqb e.policy p) (eqb e.action a) (eq-eqb e.policy p m.policy) (eq-eqb e.action a m.action))
      (seen-labelled x y s m.label)

-- the set m holds what the instances at these places may be in
abbrev pub Holds : Bool → List Edge → ℕ → (ℕ → ℕ → Type 0) → Past → List ℕ → ℕ → Type 0
Holds local es p stands past places m = (q : ℕ) → q < states → (has m q ≡ true) ↔ At local es p stands past places q

-- An event on r, which is alone at place i, moves the set by the rows for where i is among these places. (The states of an instance are
-- 0 to 7.)
pub holds-event : (local : Bool) (es : List Edge) → Ends es → (p : ℕ) (stands : ℕ → ℕ → Type 0) (a i r : ℕ) → Alone stands i r
    → (past : Past) (places : List ℕ) (x y : Bool) → Seats places i x y
    → ((q : ℕ) → At local es p stands past places q → q < states) → (m : ℕ) → Holds local es p stands past places m
    → Holds local es p stands (event a r ∷ past) places (move (fires_at p a r x y) es m)
holds-event local es v p stands a i r alone past places x y s small m h q' l = (
  λ e. let (q, k, g, u) = moved-found es v p a (SeesAt places i r) (fires_at p a r x y) (fires-seen p a places i r x y s)
      (seen-fires p a places i r x y s) m q' l e in
      (at-event local es p stands a i r alone past places q').1 (q, (h q k).0 g, u),
  λ t. let (q, b, u) = (at-event local es p stands a i r alone past places q').0 t in
      moved_at es v p a (SeesAt places i r) (fires_at p a r x y) (fires-seen p a places i r x y s) (seen-fires p a places i r x y s)
      m q q' (small q b) ((h q (small q b)).1 b) u,
)
