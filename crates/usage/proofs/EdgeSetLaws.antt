-- Every verdict depends on the edges as a set only (02, L12: "the same edges as a set and hence the same verdicts").
use Prim.Native.Nat.{ℕ}
use mathlib.Core.Path.{◌≡◌}
use mathlib.Core.Bool.{Bool, true, not}
use mathlib.Core.Option.{Option}
use mathlib.Core.List.{List, Memᴰ}
use mathlib.Core.Logic.{◌↔◌}
use Rattle.usage.specs.declared.Edge.{Edge}
use Rattle.usage.specs.declared.Node.{Node}
use Rattle.usage.specs.declared.RawStep.{RawStep}
use Rattle.usage.specs.Policy.{PairPolicy, FewPairs, Instance, single, pair, Moves, along, stays, SameEdges}
use Rattle.usage.specs.Past.{Past, May, start, moved, opened, closed, retired, Broken, Violates, Valid, empty, further}
use Rattle.usage.specs.Answers.{Verdict}
use Rattle.usage.specs.Tests.{three_pairs}
use Rattle.usage.proofs.Decides.{d-not}
use Rattle.usage.proofs.ValidLaws.{Three, decides-three}
use Rattle.usage.specs.Judge.{Judged, is_refused_with, is_violated, is_allowed, JudgedAll, done, next}
use Rattle.usage.specs.Check.{Leaves, Checked, accepts, names, Shortest, Shown, this, longer}

-- ── Sets of edges ──

pub same-edges-refl : (es : List Edge) → SameEdges es es
same-edges-refl es e = (λ m. m, λ m. m)

pub same-edges-sym : {es fs : List Edge} → SameEdges es fs → SameEdges fs es
same-edges-sym h e = ((h e).1, (h e).0)

pub same-edges-trans : {es fs gs : List Edge} → SameEdges es fs → SameEdges fs gs → SameEdges es gs
same-edges-trans h k e = (λ m. (k e).0 ((h e).0 m), λ m. (h e).1 ((k e).1 m))

-- ── What follows from one to the other ──

-- where each edge of the first is one of the second
pub pair-among : {es fs : List Edge} → ((e : Edge) → Memᴰ e es → Memᴰ e fs) → {p : ℕ} → PairPolicy es p → PairPolicy fs p
pair-among h w = record { edge = w.edge; listed = h w.edge w.listed; policy = w.policy; second = w.second }

pub few-among : {es fs : List Edge} → ((e : Edge) → Memᴰ e es → Memᴰ e fs) → FewPairs fs → FewPairs es
few-among h few a b c l k i j m = few a b c l k (pair-among h i) (pair-among h j) (pair-among h m)

pub fewer-pairs : (es fs : List Edge) → ((e : Edge) → Memᴰ e es → Memᴰ e fs) → not (three_pairs fs) ≡ true
    → not (three_pairs es) ≡ true
fewer-pairs es fs h q = (d-not _ (decides-three es)).1 (λ t. (d-not _ (decides-three fs)).0 q (more t))
  where
    more : Three es → Three fs
    more (a, l, (i, (b, k, (j, (c, m, p))))) = (a, l, (pair-among h i, (b, k, (pair-among h j, (c, m, pair-among h p)))))

module _ {es fs : List Edge} (h : SameEdges es fs) where
  moves-to : {p a : ℕ} {sees : ℕ → ℕ → Type 0} {q q' : ℕ} → Moves es p a sees q q' → Moves fs p a sees q q'
  moves-to (along e m f) = along e ((h e).0 m) f
  moves-to (stays n) = stays (λ e m f. n e ((h e).1 m) f)

  may-to : {local : Bool} {p : ℕ} {sees : ℕ → ℕ → ℕ → Type 0} {past : Past} {q : ℕ} → May local es p sees past q
      → May local fs p sees past q
  may-to start = start
  may-to (moved m v) = moved (may-to m) (moves-to v)
  may-to (opened m) = opened (may-to m)
  may-to (closed m) = closed (may-to m)
  may-to (retired m) = retired (may-to m)

module _ {es fs : List Edge} (h : SameEdges es fs) where
  instance-to : {p : ℕ} {xs : List ℕ} → Instance es p xs → Instance fs p xs
  instance-to (single n) = single (λ w. n (pair-among (λ e m. (h e).1 m) w))
  instance-to (pair w) = pair (pair-among (λ e m. (h e).0 m) w)

  broken-to : {local : Bool} {p : ℕ} {past : Past} → Broken local es p past → Broken local fs p past
  broken-to (xs, i, q, m, b) = (xs, instance-to i, q, may-to h m, b)

  violates-to : {local : Bool} {p : ℕ} {past : Past} → Violates local es p past → Violates local fs p past
  violates-to (o, b) = (o, broken-to b)

  leaves_to : {local : Bool} {ns : List Node} {p : ℕ} → Leaves local es ns p → Leaves local fs ns p
  leaves_to (past, t, v) = (past, t, violates-to v)

-- ── Both ways ──

module _ {es fs : List Edge} (h : SameEdges es fs) where
  abbrev back : SameEdges fs es
  back = same-edges-sym h

  pub moves-same : (p a : ℕ) (sees : ℕ → ℕ → Type 0) (q q' : ℕ) → Moves es p a sees q q' ↔ Moves fs p a sees q q'
  moves-same p a sees q q' = (moves-to h, moves-to back)

  pub may-same : (local : Bool) (p : ℕ) (sees : ℕ → ℕ → ℕ → Type 0) (past : Past) (q : ℕ)
      → May local es p sees past q ↔ May local fs p sees past q
  may-same local p sees past q = (may-to h, may-to back)

  pub broken-same : (local : Bool) (p : ℕ) (past : Past) → Broken local es p past ↔ Broken local fs p past
  broken-same local p past = (broken-to h, broken-to back)

  pub violates-same : (local : Bool) (p : ℕ) (past : Past) → Violates local es p past ↔ Violates local fs p past
  violates-same local p past = (violates-to h, violates-to back)

  pub leaves-same : (local : Bool) (ns : List Node) (p : ℕ) → Leaves local es ns p ↔ Leaves local fs ns p
  leaves-same local ns p = (leaves_to h, leaves_to back)

-- ── The right answers ──

module _ {es fs : List Edge} (h : SameEdges es fs) where
  valid_to : {local : Bool} {past : Past} → Valid local es past → Valid local fs past
  valid_to empty = empty
  valid_to (further v n) = further (valid_to v) (λ p w. n p (violates-to (same-edges-sym h) w))

  judged-to : {local : Bool} {past : Past} {halted : Bool} {raw : RawStep} {v : Verdict} → Judged local es past halted raw v
      → Judged local fs past halted raw v
  judged-to (is_refused_with r) = is_refused_with r
  judged-to (is_violated t e v low) = is_violated t e (violates-to h v) (λ s l w. low s l (violates-to (same-edges-sym h) w))
  judged-to (is_allowed t e n) = is_allowed t e (λ p w. n p (violates-to (same-edges-sym h) w))

  judged-all-to : {local : Bool} {past : Past} {halted : Bool} {raws : List RawStep} {vs : List Verdict}
      → JudgedAll local es past halted raws vs → JudgedAll local fs past halted raws vs
  judged-all-to done = done
  judged-all-to (next j js) = next (judged-to j) (judged-all-to js)

  checked-to : {local : Bool} {ns : List Node} {v : Verdict} → Checked local es ns v → Checked local fs ns v
  checked-to (accepts n) = accepts (λ p l. n p (leaves_to (same-edges-sym h) l))
  checked-to (names l low) = names (leaves_to h l) (λ s b m. low s b (leaves_to (same-edges-sym h) m))

  shortest-to : {local : Bool} {ns : List Node} {p : ℕ} {past : Past} → Shortest local es ns p past → Shortest local fs ns p past
  shortest-to s = record {
    trace = s.trace;
    numbered = s.numbered;
    violates = violates-to h s.violates;
    least = λ another t v. s.least another t (violates-to (same-edges-sym h) v);
  }

  shown-to : {local : Bool} {ns : List Node} {p : ℕ} {o : Option Past} → Shown local es ns p o → Shown local fs ns p o
  shown-to (this s l) = this (shortest-to s) l
  shown-to (longer n) = longer (λ past t v. n past t (violates-to (same-edges-sym h) v))

module _ {es fs : List Edge} (h : SameEdges es fs) where
  pub valid_same : (local : Bool) (past : Past) → Valid local es past ↔ Valid local fs past
  valid_same local past = (valid_to h, valid_to (same-edges-sym h))

  pub judged-same : (local : Bool) (past : Past) (halted : Bool) (raw : RawStep) (v : Verdict)
      → Judged local es past halted raw v ↔ Judged local fs past halted raw v
  judged-same local past halted raw v = (judged-to h, judged-to (same-edges-sym h))

  pub judged-all-same : (local : Bool) (past : Past) (halted : Bool) (raws : List RawStep) (vs : List Verdict)
      → JudgedAll local es past halted raws vs ↔ JudgedAll local fs past halted raws vs
  judged-all-same local past halted raws vs = (judged-all-to h, judged-all-to (same-edges-sym h))

  pub checked-same : (local : Bool) (ns : List Node) (v : Verdict) → Checked local es ns v ↔ Checked local fs ns v
  checked-same local ns v = (checked-to h, checked-to (same-edges-sym h))

  -- and what is shown with a refusal
  pub shown-same : (local : Bool) (ns : List Node) (p : ℕ) (o : Option Past) → Shown local es ns p o ↔ Shown local fs ns p o
  shown-same local ns p o = (shown-to h, shown-to (same-edges-sym h))
