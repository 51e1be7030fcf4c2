-- What a past's last step says of the states that an instance may be in, and that the start stands for the empty past.
use Prim.Native.Nat.{ℕ, zero, suc, ◌+◌, ◌*◌, ◌<◌, ◌≤◌}
use mathlib.Core.Path.{◌≡◌, refl, sym, ap, ◌∙◌, subst}
use mathlib.Core.Bool.{Bool, true, false, not, ◌&&◌, cond}
use mathlib.Core.List.Memᴰ
use mathlib.Core.List.{List, [], ◌∷◌}
use mathlib.Core.Logic.{◌↔◌}
use native.Mathlib.Nat.{zero-add}
use native.Mathlib.Omega.{arith}
use lib.Dec.{eqb, lit<}
use lib.ListN.{get_or, replicate, length-replicate, get_or-replicate}
use borrow.Author.Tests.{eq-eqb, eqb-true}
use Rattle.usage.specs.declared.Edge.{Edge}
use Rattle.usage.specs.Limits.{policies, states}
use Rattle.usage.specs.Policy.{PairPolicy, Sees, Moves}
use Rattle.usage.specs.Placed.{At}
use Rattle.usage.proofs.PlacedLaws.{one_placed}
use Rattle.usage.specs.Past.{Past, event, May, start, moved, opened, closed, retired, count, open_stack, live_in, highest, occurrences, is_open}
use Rattle.usage.specs.Tests.{every}
use Rattle.automaton.specs.Mask.{has}
use Rattle.automaton.proofs.MaskLaws.{has-pow}
use Rattle.automaton.proofs.MoveLaws.{Ends, moves-lt}
use Rattle.monitor_sets.specs.Instances.{instances, set_places}
use Rattle.monitor_sets.specs.Order.{agree_below}
use Rattle.monitor_state.specs.Tracked.{pair_sets, set_at, possible_in, start_tracked}
use Rattle.monitor_state.specs.Created.{distinct, created_ok, highest_ok, live_ok, used, start_created}
use Rattle.monitor_state.specs.Unclosed.{stack_in, order_ok_lem, unclosed_ok, start_unclosed}
use Rattle.monitor_state.specs.Judge.{start_state}
use Rattle.monitor_state.specs.Represents.{Stands, Tracks, TracksBlock, Gathers, HoldsStates, ListsLive, CountsOpenings, Represents}
use Rattle.monitor_pairs.specs.Pairs.{pair_places}
use Rattle.monitor_pairs.specs.Tracked.{TracksPairs}
use Rattle.monitor_pairs.specs.Blocks.{pairs_of}
use Rattle.monitor_pairs.proofs.TrackedLaws.{start-tracks}
use Rattle.monitor_pairs.proofs.EachLaws.{lower-pair, upper-pair, start-lower, start-upper}
use Rattle.monitor_state.proofs.StandsLaws.{someone, Somewhere, placed-some}

-- ── The last step ──

may-start : {local : Bool} {es : List Edge} {p : ℕ} {sees : ℕ → ℕ → ℕ → Type 0} {q : ℕ} → May local es p sees [] q → q ≡ 0
may-start start = refl

pub record Came (local : Bool) (es : List Edge) (p : ℕ) (sees : ℕ → ℕ → ℕ → Type 0) (a r : ℕ) (past : Past) (q' : ℕ) : Type 0 where
  pub q : ℕ
  pub before : May local es p sees past q
  pub moves : Moves es p a (sees r) q q'

pub may-event : {local : Bool} {es : List Edge} {p : ℕ} {sees : ℕ → ℕ → ℕ → Type 0} {a r : ℕ} {past : Past} {q' : ℕ}
    → May local es p sees (event a r ∷ past) q' → Came local es p sees a r past q'
may-event (moved {q = q} m g) = record { q = q; before = m; moves = g }

-- an instance is in states 0 to 7 only
pub may-lt : {local : Bool} {es : List Edge} {p : ℕ} {sees : ℕ → ℕ → ℕ → Type 0} {past : Past} {q : ℕ}
    → Ends es → May local es p sees past q → q < states
may-lt v start = lit< tt
may-lt v (moved m g) = moves-lt v (may-lt v m) g
may-lt {local} {p = p} v (opened {s} {past} m) = either (local && (eqb s p && not (is_open p past))) (may-lt v m)
  where
    either : (b : Bool) {q : ℕ} → q < states → cond b 0 q < states
    either true h = lit< tt
    either false h = h
may-lt v (closed m) = may-lt v m
may-lt v (retired m) = may-lt v m

-- ── The start ──

replicate-below : (n a b k : ℕ) → a < b → get_or (replicate n a) k 0 < b
replicate-below zero a b k h = omega arith
replicate-below (suc n) a b zero h = h
replicate-below (suc n) a b (suc k) h = replicate-below n a b k h

begin-set : (i p : ℕ) → i < instances → p < policies → set_at start_tracked p i ≡ 1
unfolding start_tracked
begin-set i p l h = get_or-replicate set_places (p * instances + i) 1 0 (omega arith)

begin-used : (i : ℕ) → i < used start_created → i < instances
unfolding start_created
begin-used i l = omega arith

begin-live : ListsLive [] start_created
unfolding start_created live_ok created_ok highest_ok every distinct live_in highest
begin-live = record { well = refl; lives = refl; most = refl; gone = λ x m. absurd (Memᴰ.not-nil m); occurred = λ x o u. absurd (Memᴰ.not-nil o.1); numbers_length = refl }

-- every instance is in state 0, and there is one wherever a place is in use
begin-at : (local : Bool) (es : List Edge) (p i q : ℕ) → (PairPolicy es p → ⊥) → i < used start_created
    → (eqb 0 q ≡ true) ↔ At local es p (Stands [] start_created) [] (i ∷ []) q
begin-at local es p i q single l = (
  λ e. let (x, g) = someone [] start_created begin-live i l in
      one_placed single g local [] q (subst (λ (n : ℕ). May local es p (Sees (x ∷ [])) [] n) (eqb-true 0 q e) start),
  λ y. eq-eqb 0 q (sym (may-start y.may)),
)

begin-tracks : (local : Bool) (es : List Edge) → Tracks local es [] start_created start_tracked
begin-tracks local es p i q k single l b =
    let one : has (set_at start_tracked p i) q ≡ eqb 0 q = ap (λ (m : ℕ). has m q) (begin-set i p (begin-used i l) k) ∙ has-pow 0 q (lit< tt) b in
    let f = begin-at local es p i q single l in
    (λ e. f.0 (sym one ∙ e), λ y. one ∙ f.1 y)

begin-possible : (p : ℕ) → p < policies → possible_in start_tracked p ≡ 1
unfolding start_tracked
begin-possible p h = get_or-replicate policies p 1 0 h

-- some instance of any policy, wherever it stands, is in state 0
begin-gathers : (local : Bool) (es : List Edge) → Gathers local es [] start_created start_tracked
begin-gathers local es p q k b =
    let one : has (possible_in start_tracked p) q ≡ eqb 0 q = ap (λ (m : ℕ). has m q) (begin-possible p k) ∙ has-pow 0 q (lit< tt) b in (
      λ e. let (places, y) = placed-some es p (Stands [] start_created) 0 (someone [] start_created begin-live 0 (omega arith)) in
          (places, at_zero local es p places q (eqb-true 0 q (sym one ∙ e)) y),
      λ (places, y). one ∙ eq-eqb 0 q (sym (may-start y.may)),
    )
  where
    at_zero : (local : Bool) (es : List Edge) (p : ℕ) (places : List ℕ) (q : ℕ) → 0 ≡ q
        → Somewhere es p (Stands [] start_created) places → At local es p (Stands [] start_created) [] places q
    at_zero local es p places q e y = record {
      resources = y.numbers;
      fits = y.fits;
      placed = y.placed;
      may = subst (λ (n : ℕ). May local es p (Sees y.numbers) [] n) e start;
    }

begin-block : (local : Bool) (es : List Edge) (p : ℕ) (sets : List ℕ) → PairPolicy es p → sets ≡ replicate pair_places 1
    → TracksBlock local es [] start_created p sets
unfolding start_created
begin-block local es p sets is-pair e h =
    subst (TracksPairs local es p (Stands [] start_created) [] (used start_created)) (sym e)
    (start-tracks es p is-pair (Stands [] start_created) (used start_created) (omega arith) (someone [] start_created begin-live) local few)
  where
    few : used start_created ≤ instances
    few = omega arith

begin-states : (local : Bool) (es : List Edge) → HoldsStates local es [] start_created start_tracked
unfolding start_tracked
begin-states local es = record {
  tracks = begin-tracks local es;
  lower = λ h. begin-block local es (pairs_of es).first _ (lower-pair es h) start-lower h;
  upper = λ h. begin-block local es (pairs_of es).second _ (upper-pair es h) start-upper h;
  gathers = begin-gathers local es;
  sets_length = length-replicate {A = ℕ} set_places 1;
  pairs_length = length-replicate {A = ℕ} pair_sets 1;
  possible_length = refl;
  bytes = λ k. replicate-below set_places 1 256 k (lit< tt);
  pair_bytes = λ k. replicate-below pair_sets 1 256 k (lit< tt);
  possible_bytes = λ p. replicate-below policies 1 256 p (lit< tt);
}

begin-openings : CountsOpenings [] start_unclosed
unfolding start_unclosed unclosed_ok order_ok_lem stack_in agree_below occurrences every count open_stack
begin-openings = record {
  well = refl;
  open_count = λ p. zero-add (get_or (replicate policies 0) p 0) ∙ zero_of (replicate-below policies 0 1 p (lit< tt));
  stack = refl;
  counts_length = refl;
  order_length = refl;
}
  where
    zero_of : {n : ℕ} → n < 1 → n ≡ 0
    zero_of h = omega arith

pub begin-represents : (local : Bool) (es : List Edge) → Represents local es [] false start_state
unfolding start_state
begin-represents local es = record { halted = refl; tracked = begin-states local es; created = begin-live; unclosed = begin-openings }
