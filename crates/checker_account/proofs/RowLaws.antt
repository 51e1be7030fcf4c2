-- A table of rows is right for every choice of watched resources, where each row is the set of states that one state moves to by the
-- node's event: an event on a static resource, or, for a name and a creation, on resource 18, which no edge names.
use Prim.Native.Nat.{ℕ, ◌<◌, ◌≤◌}
use mathlib.Core.Path.{◌≡◌, refl, sym, ap, ◌∙◌, subst}
use mathlib.Core.Bool.{Bool, true, false, cond}
use mathlib.Core.List.{List, [], ◌∷◌}
use mathlib.Core.Logic.{◌↔◌}
use native.Mathlib.Omega.{arith}
use lib.Dec.{eqb}
use borrow.Author.Tests.{eqb-true, eqb-false, eq-eqb, ne_eqb}
use Rattle.usage.specs.declared.Edge.{Edge}
use Rattle.usage.specs.declared.Node.{Node}
use Rattle.usage.specs.Limits.{statics, create, states}
use Rattle.usage.specs.Policy.{Sees, Moves, EdgesOk}
use Rattle.usage.specs.Outline.{Is, static_event, named_event, fresh}
use Rattle.usage.proofs.SeesLaws.{moves-alike}
use Rattle.usage.proofs.PlacedLaws.{SeesAt}
use Rattle.automaton.specs.Mask.{has}
use Rattle.automaton.proofs.PlaceLaws.{Seats, one-seat, two-seats}
use Rattle.checker_account.specs.Account.{watched, watched_too, others}
use Rattle.checker_account.specs.declared.Resources.{Resources}
use Rattle.checker_account.specs.Tables.{nothing, two_resources, watched_by, Rows, row_on}
use Rattle.checker_account.specs.Filling.{Asked, one, two, apart}
use Rattle.checker_account.specs.Holds.{StandsFor, RowMoves, RowsOk, NamesOk}

-- the states that q moves to by the event a(r) of policy p, for an instance at these places: it is on the first of them or not, and on the
-- second or not
pub record Image (es : List Edge) (p : ℕ) (image : ℕ → ℕ → Bool → Bool → ℕ → ℕ) : Type 0 where
  pub right : (us : List ℕ) (i a r : ℕ) (first second : Bool) → Seats us i first second → (q q' : ℕ) → q < states → q' < states
      → (has (image a r first second q) q' ≡ true) ↔ Moves es p a (SeesAt us i r) q q'

-- the rows are these sets, at each node with an event; those for an event on the second place, of a pair policy
pub record RowsFrom (ns : List Node) (pair : Bool) (image : ℕ → ℕ → Bool → Bool → ℕ → ℕ) (rows : Rows) : Type 0 where
  pub static : {k a s : ℕ} → Is ns k (static_event a s) → (first second : Bool) → (second ≡ true → pair ≡ true) → (q : ℕ) → q < states
      → rows k first second q ≡ image a s first second q
  pub name : {k a n : ℕ} → Is ns k (named_event a n) → (first second : Bool) → (second ≡ true → pair ≡ true) → (q : ℕ) → q < states
      → rows k first second q ≡ image a others first second q
  pub created : {k n b : ℕ} → Is ns k (fresh n b) → (first second : Bool) → (second ≡ true → pair ≡ true) → (q : ℕ) → q < states
      → rows k first second q ≡ image create others first second q

-- ── Where a resource stands among those that are watched ──

eqb-turned : (a b : ℕ) → eqb a b ≡ eqb b a
eqb-turned a b = go (eqb a b) refl
  where
    go : (c : Bool) → eqb a b ≡ c → c ≡ eqb b a
    go true e = sym (eq-eqb b a (sym (eqb-true a b e)))
    go false e = sym (ne_eqb b a (λ f. eqb-false a b e (sym f)))

pub two-are : (a b : ℕ) → b < nothing → watched_by (two_resources a b) ≡ a ∷ b ∷ []
unfolding watched_by
two-are a b l = ap (λ (c : Bool). cond c (a ∷ []) (a ∷ b ∷ [])) (ne_eqb b nothing (λ e. omega arith))

two-sit : (a b r : ℕ) → b < nothing → Seats (watched_by (two_resources a b)) r (eqb r a) (eqb r b)
two-sit a b r l =
    subst (λ (us : List ℕ). Seats us r (eqb r a) (eqb r b)) (sym (two-are a b l))
    (subst (λ (c : Bool). Seats (a ∷ b ∷ []) r c (eqb r b)) (eqb-turned a r)
    (subst (λ (c : Bool). Seats (a ∷ b ∷ []) r (eqb a r) c) (eqb-turned b r) (two-seats a b r)))

pub seats : {pair : Bool} {x : Resources} → Asked pair x → (r : ℕ) → r ≤ others
    → Seats (watched_by x) r (eqb r x.first) (eqb r x.second)
unfolding watched_by
seats (one {x = a} l) r h =
    subst (λ (c : Bool). Seats (a ∷ []) r c (eqb r nothing)) (eqb-turned a r)
    (subst (λ (c : Bool). Seats (a ∷ []) r (eqb a r) c) (sym (ne_eqb r nothing (λ e. omega arith))) (one-seat a r))
seats (two {x = a} {y = b} l k) r h = two-sit a b r (omega arith)
seats apart r h = two-sit watched watched_too r (omega arith)

-- only a pair policy has a second one
seated-pair : {pair : Bool} {x : Resources} → Asked pair x → (r : ℕ) → r ≤ others → eqb r x.second ≡ true → pair ≡ true
seated-pair (one l) r h e = absurd (let f = eqb-true r nothing e in omega arith)
seated-pair (two l k) r h e = refl
seated-pair apart r h e = refl

-- ── How it is seen ──

sees-at : {us : List ℕ} {r on who : ℕ} → Sees us r on who → SeesAt us r r on who
sees-at Sees.named = SeesAt.named
sees-at (Sees.own h) = SeesAt.own h
sees-at (Sees.other d) = SeesAt.other d
sees-at (Sees.second h) = SeesAt.second h

at-sees : {us : List ℕ} {r on who : ℕ} → SeesAt us r r on who → Sees us r on who
at-sees SeesAt.named = Sees.named
at-sees (SeesAt.own h) = Sees.own h
at-sees (SeesAt.other d) = Sees.other d
at-sees (SeesAt.second h) = Sees.second h

-- a stand-in for dynamic resources is seen by its places alone: no edge names it
stands_at : {us : List ℕ} {r on who : ℕ} → watched ≤ r → (on ≡ 0 → who < statics) → Sees us r on who → SeesAt us r others on who
stands_at l s Sees.named = absurd (let h = s refl in omega arith)
stands_at l s (Sees.own h) = SeesAt.own h
stands_at l s (Sees.other d) = SeesAt.other d
stands_at l s (Sees.second h) = SeesAt.second h

at-stands : {us : List ℕ} {r on who : ℕ} → (on ≡ 0 → who < statics) → SeesAt us r others on who → Sees us r on who
at-stands s SeesAt.named = absurd (let h = s refl in omega arith)
at-stands s (SeesAt.own h) = Sees.own h
at-stands s (SeesAt.other d) = Sees.other d
at-stands s (SeesAt.second h) = Sees.second h

module _ (es : List Edge) (ns : List Node) (p : ℕ) (x : Resources) {pair : Bool} (asked : Asked pair x) (rows : Rows)
    (image : ℕ → ℕ → Bool → Bool → ℕ → ℕ) (edges : EdgesOk es) (names : NamesOk ns) (right : Image es p image)
    (made : RowsFrom ns pair image rows) where
  abbrev Shown : ℕ → ℕ → ℕ → ℕ → Type 0
  Shown k a r s = (q : ℕ) → q < states
      → row_on rows x k r q ≡ image a s (eqb r x.first) (eqb r x.second) q

  static-moves : (k a r : ℕ) → r ≤ others → Shown k a r r → RowMoves es p x rows k a r
  static-moves k a r small e q q' l l' =
      let h = right.right (watched_by x) r a r (eqb r x.first) (eqb r x.second) (seats asked r small) q q' l l' in (
        (λ b. moves-alike (λ d m. (at-sees, sees-at)) (h.0 (ap (λ (v : ℕ). has v q') (sym (e q l)) ∙ b))),
        (λ v. ap (λ (w : ℕ). has w q') (e q l) ∙ h.1 (moves-alike (λ d m. (sees-at, at-sees)) v)),
      )

  stands-moves : (k a r : ℕ) → StandsFor r → Shown k a r others → RowMoves es p x rows k a r
  stands-moves k a r (low, high) e q q' l l' =
      let h = right.right (watched_by x) r a others (eqb r x.first) (eqb r x.second) (seats asked r high) q q' l l' in (
        (λ b. moves-alike (λ d m. (at-stands (edges.each d m).who_static, stands_at low (edges.each d m).who_static))
            (h.0 (ap (λ (v : ℕ). has v q') (sym (e q l)) ∙ b))),
        (λ v. ap (λ (w : ℕ). has w q') (e q l) ∙ h.1
            (moves-alike (λ d m. (stands_at low (edges.each d m).who_static, at-stands (edges.each d m).who_static)) v)),
      )

  pub rows_ok : RowsOk es ns p x rows
  rows_ok = record {
    static = λ {k} {a} {s} i.
        let l = names.static i in
        let b : s ≤ others = omega arith in
        static-moves k a s b (made.static i (eqb s x.first) (eqb s x.second) (seated-pair asked s b));
    name = λ {k} {a} {n} i r d.
        stands-moves k a r d (made.name i (eqb r x.first) (eqb r x.second) (seated-pair asked r d.1));
    created = λ {k} {n} {b} i r d.
        stands-moves k create r d (made.created i (eqb r x.first) (eqb r x.second) (seated-pair asked r d.1));
  }
