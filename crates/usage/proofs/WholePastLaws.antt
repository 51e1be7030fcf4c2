-- With the whole past, the definitions over the choice of past are those of document 01 as they stood before there was a choice:
-- "Openings and closings are not events and move no state."
use Prim.Native.Nat.{ℕ}
use mathlib.Core.Bool.{false}
use mathlib.Core.List.{List, [], ◌∷◌}
use mathlib.Core.Logic.{◌↔◌}
use Rattle.usage.specs.declared.Edge.{Edge}
use Rattle.usage.specs.Policy.{Instance, Sees, Moves, Offending}
use Rattle.usage.specs.Past.{Step, event, opening, closing, retiring, Past, Open, May, start, moved, opened, closed, retired, Broken}
use Rattle.usage.specs.Past.{Violates}
use Rattle.usage.specs.Past.{Valid, empty, further}

-- ── The definitions without a choice ──

-- what an instance may be in: state 0 at the start; an event moves it; an opening, a closing or a retiring keeps it
pub data WholeMay (es : List Edge) (p : ℕ) (sees : ℕ → ℕ → ℕ → Type 0) : Past → ℕ → Type 0 where
  at-start : WholeMay es p sees [] 0
  by-event : {a r : ℕ} {past : Past} {q q' : ℕ} → WholeMay es p sees past q → Moves es p a (sees r) q q'
      → WholeMay es p sees (event a r ∷ past) q'
  by_opening : {s : ℕ} {past : Past} {q : ℕ} → WholeMay es p sees past q → WholeMay es p sees (opening s ∷ past) q
  by-closing : {s : ℕ} {past : Past} {q : ℕ} → WholeMay es p sees past q → WholeMay es p sees (closing s ∷ past) q
  by-retiring : {r : ℕ} {past : Past} {q : ℕ} → WholeMay es p sees past q → WholeMay es p sees (retiring r ∷ past) q

abbrev pub WholeBroken : List Edge → ℕ → Past → Type 0
WholeBroken es p past = (xs : List ℕ) × Instance es p xs × (q : ℕ) × WholeMay es p (Sees xs) past q × Offending q

abbrev pub WholeViolates : List Edge → ℕ → Past → Type 0
WholeViolates es p past = Open p past × WholeBroken es p past

pub data WholeValid (es : List Edge) : Past → Type 0 where
  none_yet : WholeValid es []
  one_further : {s : Step} {past : Past} → WholeValid es past → ((p : ℕ) → WholeViolates es p (s ∷ past) → ⊥) → WholeValid es (s ∷ past)

-- ── They are the same ──

module _ {es : List Edge} {p : ℕ} {sees : ℕ → ℕ → ℕ → Type 0} where
  may-to : {past : Past} {q : ℕ} → May false es p sees past q → WholeMay es p sees past q
  may-to start = at-start
  may-to (moved m v) = by-event (may-to m) v
  may-to (opened m) = by_opening (may-to m)
  may-to (closed m) = by-closing (may-to m)
  may-to (retired m) = by-retiring (may-to m)

  may-back : {past : Past} {q : ℕ} → WholeMay es p sees past q → May false es p sees past q
  may-back at-start = start
  may-back (by-event m v) = moved (may-back m) v
  may-back (by_opening m) = opened (may-back m)
  may-back (by-closing m) = closed (may-back m)
  may-back (by-retiring m) = retired (may-back m)

pub whole-may : (es : List Edge) (p : ℕ) (sees : ℕ → ℕ → ℕ → Type 0) (past : Past) (q : ℕ)
    → May false es p sees past q ↔ WholeMay es p sees past q
whole-may es p sees past q = (may-to, may-back)

pub whole-broken : (es : List Edge) (p : ℕ) (past : Past) → Broken false es p past ↔ WholeBroken es p past
whole-broken es p past = (λ (xs, i, q, m, o). (xs, i, q, may-to m, o), λ (xs, i, q, m, o). (xs, i, q, may-back m, o))

pub whole-violates : (es : List Edge) (p : ℕ) (past : Past) → Violates false es p past ↔ WholeViolates es p past
whole-violates es p past = (λ (o, b). (o, (whole-broken es p past).0 b), λ (o, b). (o, (whole-broken es p past).1 b))

module _ {es : List Edge} where
  valid_to : {past : Past} → Valid false es past → WholeValid es past
  valid_to empty = none_yet
  valid_to (further v n) = one_further (valid_to v) (λ p w. n p ((whole-violates es p _).1 w))

  valid-back : {past : Past} → WholeValid es past → Valid false es past
  valid-back none_yet = empty
  valid-back (one_further v n) = further (valid-back v) (λ p w. n p ((whole-violates es p _).0 w))

pub whole-valid : (es : List Edge) (past : Past) → Valid false es past ↔ WholeValid es past
whole-valid es past = (valid_to, valid-back)
