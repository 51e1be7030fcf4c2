-- The marks of a policy, from the tables that were filled.
use Prim.Native.Nat.{ℕ, zero, suc, ◌*◌, ◌/◌, ◌%◌, ◌^◌, ◌<◌}
use mathlib.Core.Path.{◌≡◌, refl, sym, ap, ◌∙◌}
use mathlib.Core.Bool.{Bool, true, false, ◌||◌, cond}
use mathlib.Core.List.{List}
use native.Mathlib.Nat.{one-mul}
use native.Mathlib.Omega.{arith}
use lib.Bits.{bit_or}
use lib.Dec.{lit<}
use lib.Pow.{shl_exact}
use lib.ListN.{length}
use Rattle.usage.specs.Limits.{most_nodes, node_fields}
use Rattle.usage.specs.Tests.{some_below}
use Rattle.usage.proofs.Logic.{false-true, or_left}
use Rattle.automaton.specs.Mask.{union}
use Rattle.checker_account.specs.declared.Resources.{Resources}
use Rattle.checker_account.specs.Tables.{rows_in}
use Rattle.checker_account.specs.Filling.{forms_in, hit_node_lem, hit_any}
use Rattle.checker_tables.specs.Search.{ArrivesIf}
use Rattle.checker_tables.specs.Marks.{last_in, mark_bit_lem, hit_marks, marks_in, MarkedIf}

-- ── Bits ──

pub shifted : (k : ℕ) → k < most_nodes → 1 * 2 ^ k % 2 ^ 64 ≡ 2 ^ k
shifted k l = shl_exact {a = 1} 1 k 64 (lit< tt) (omega arith) ∙ one-mul (2 ^ k)

-- ── The search, gone through to its end ──

no-marks : (n : ℕ) (test : ℕ → Bool) (f : ℕ → ℕ) → some_below test n ≡ false → union n (λ k. cond (test k) (f k) 0) ≡ 0
unfolding union some_below
no-marks zero test f e = refl
no-marks (suc n) test f e = go (test n) refl (no-marks n test f)
  where
    go : (b : Bool) → test n ≡ b → (some_below test n ≡ false → union n (λ k. cond (test k) (f k) 0) ≡ 0)
        → bit_or (union n (λ k. cond (test k) (f k) 0)) (cond (test n) (f n) 0) ≡ 0
    go true h ih = false-true (sym e ∙ or_left (test n) (some_below test n) h)
    go false h ih = rw (h, ih (sym (ap (λ (b : Bool). b || some_below test n) h) ∙ e)) refl

-- a search that finds nothing leaves no mark
pub unmarked : (room : Bool) (nodes : List ℕ) (local : Bool) (rows : List ℕ) (p : ℕ) (x : Resources) (u : List ℕ) (answer : Bool) → answer ≡ false
    → ArrivesIf room nodes local rows p x u answer → MarkedIf room nodes local rows p x 0
unfolding hit_any hit_marks
unmarked true nodes local rows p x u answer e h = record {
  ends = h.arrived.ends;
  comes = u;
  ends_filled = h.arrived.ends_filled;
  comes_filled = h.arrived.comes_filled;
  told = sym (no-marks (length nodes / node_fields) (λ k. hit_node_lem local (rows_in rows) p x u k (forms_in nodes k))
      (λ k. mark_bit_lem (last_in (forms_in nodes k))) (sym h.told ∙ e));
}
unmarked false nodes local rows p x u answer e h = refl

-- where it finds something, the tables have room, and the marks are those of all nodes
pub found-room : (room : Bool) (nodes : List ℕ) (local : Bool) (rows : List ℕ) (p : ℕ) (x : Resources) (u : List ℕ) (answer : Bool) → answer ≡ true
    → ArrivesIf room nodes local rows p x u answer → room ≡ true
found-room true nodes local rows p x u answer e h = refl
found-room false nodes local rows p x u answer e h = sym h.0 ∙ e

pub all-marked : (room : Bool) (nodes : List ℕ) (local : Bool) (rows : List ℕ) (p : ℕ) (x : Resources) (u : List ℕ) (answer : Bool) (marks : ℕ)
    → answer ≡ true → marks ≡ marks_in nodes local rows u p x
    → ArrivesIf room nodes local rows p x u answer → MarkedIf room nodes local rows p x marks
all-marked true nodes local rows p x u answer marks e m h = record {
  ends = h.arrived.ends;
  comes = u;
  ends_filled = h.arrived.ends_filled;
  comes_filled = h.arrived.comes_filled;
  told = m;
}
all-marked false nodes local rows p x u answer marks e m h = false-true (sym h.0 ∙ e)
