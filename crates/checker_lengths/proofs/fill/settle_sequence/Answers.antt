use mathlib.Core.Path.{◌≡◌, sym, ap, ◌∙◌, subst}
use mathlib.Core.Bool.{Bool, true, ◌||◌}
use mathlib.Core.Option.{some}
use mathlib.Core.List.{List}
use Prim.Native.Nat.{ℕ, ◌+◌, ◌≤◌, ◌<◌}
use native.Mathlib.Omega.{arith}
use borrow.Author.Count.{below_more}
use Rattle.usage.specs.Outline.{sequence}
use Rattle.checker_lengths.specs.declared.Entry.{Entry}
use Rattle.checker_lengths.specs.declared.WatchOne.{WatchOne}
use Rattle.checker_lengths.specs.Entries.{all_lengths, in_table, held, plus}
use Rattle.checker_lengths.specs.Offers.{toward, low_end_lem, first_entry, second_entry, offer_of}
use Rattle.checker_lengths.specs.Code.{Puts}
use Rattle.checker_lengths.specs.Filling.{Settled}
use Rattle.checker_lengths.proofs.PassLaws.{same-held, pass-then, pass-none, pass-map, settled-lasts}
use Rattle.checker_lengths.proofs.OfferLaws.{sequence-both, sequence-dead}
use Rattle.checker_lengths.proofs.EntryLaws.{toward-in, low-end-le}
use Rattle.checker_lengths.proofs.fill.settle_sequence.Goals as goal
use Rattle.checker_lengths.proofs.fill.settle_sequence.Invariants.{Below}

module _ (s : Entry) (a b c : ℕ) (low : c < 16) where
  -- where the first node comes to no such end
  none-given : (t : List ℕ) (v : ℕ) → v ≡ held t all_lengths (first_entry s a c) → 200 < v → (w : WatchOne) (rows : List ℕ) (i : ℕ)
      → Settled w rows (some (sequence a b)) t (toward s i) c
  unfolding offer_of
  none-given t v e l w rows i few =
      absurd (omega (arith, sequence-dead (held t all_lengths) (toward s i) a b c low (omega arith)))

  -- aim i too
  more : (a ≡ s.node → ⊥) → (i : ℕ) (t₀ t t' : List ℕ) (v : ℕ) (r d : Bool) → v ≡ held t₀ all_lengths (first_entry s a c)
      → Below s a b c i t₀ t r → Puts (toward s i) (plus v (held t all_lengths (toward (second_entry s b c) i))) t t' d
      → Below s a b c (i + 1) t₀ t' (r || d)
  unfolding offer_of
  more away i t₀ t t' v r d e before put w rows =
      let p = before w rows in
      let first : v ≡ held t all_lengths (first_entry s a c) = e ∙ sym (same-held p.fell (first_entry s a c) away) in
      let offered = ap (λ (n : ℕ). plus n (held t all_lengths (toward (second_entry s b c) i))) first
      ∙ sequence-both (held t all_lengths) (toward s i) a b c low in
      pass-then
      (λ u x y. below_more (λ (j : ℕ). low_end_lem s.meaning ≤ j → Settled w rows (some (sequence a b)) u (toward s j) c) i x (λ _. y))
      (λ y g h j l k. settled-lasts w rows s.node (some (sequence a b)) y g (toward s j) c (h j l k))
      p (put w rows (some (sequence a b)) c offered)

pub returns-then-v-gt-MOST : goal.returns-then-v-gt-MOST
returns-then-v-gt-MOST c = λ w rows.
    let a = c.args in
    let p = c.requires in
    let e = c.get-v.ensures ∙ ap (held a.t.now all_lengths) c.first.ensures in
    pass-none (λ i lo k. none-given a.s a.a a.b a.c p.c_lt_at_break a.t.now c.get-v.result e
    c.if-v-gt-MOST.true w rows i)

pub put-changed-requires : goal.put-changed-requires
put-changed-requires c =
    subst (λ (e : Entry). in_table e ≡ true) (sym c.toward-in-loop-i.ensures)
    (toward-in c.args.s c.loop-i.i c.requires.s_value c.loop-i-test.true)

pub loop-i-preserved : goal.loop-i-preserved
loop-i-preserved c =
    let a = c.args in
    let p = c.requires in
    let l = c.loop-i in
    let q = c.put-changed in
    let v = c.get-v in
    let e = v.ensures ∙ ap (held a.t.now all_lengths) c.first.ensures in
    let from = c.toward.ensures ∙ ap (λ (y : Entry). toward y l.i) c.second-from.ensures in
    let sum = c.plus-sum.ensures ∙ ap (plus v.result) (c.get.ensures ∙ ap (held l.t all_lengths) from) in
    let puts = subst (λ (n : ℕ). Puts (toward a.s l.i) n l.t q.new.t q.result) sum
    (subst (λ (y : Entry). Puts y c.plus-sum.result l.t q.new.t q.result) c.toward-in-loop-i.ensures q.ensures) in
    more a.s a.a a.b a.c p.c_lt_at_break p.first_elsewhere l.i a.t.now l.t q.new.t v.result l.changed q.result
    e l.invariant puts

pub returns : goal.returns
returns c = let l = c.loop-i in let m = low-end-le c.args.s.meaning in
    let e : l.i ≡ 17 = omega (arith, c.low_end-i.ensures) in λ w rows. pass-map (λ _ h j lo k. h j (omega arith) lo) (l.invariant w rows)
