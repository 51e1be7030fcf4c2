use mathlib.Core.Path.{◌≡◌, refl, sym, ap, ap₂, ◌∙◌, subst}
use mathlib.Core.Bool.{Bool, true, false}
use mathlib.Core.Option.{Option, none}
use mathlib.Core.List.{List}
use native.Mathlib.Omega.{arith}
use native.Mathlib.Nat.{not-suc-le-zero}
use lib.Dec.{lit<}
use lib.Bits.{bit_or}
use lib.Pow.{pow_mono}
use lib.ListN.{length, get_or}
use Prim.Native.Nat.{ℕ, ◌-◌, ◌*◌, ◌/◌, ◌%◌, ◌^◌, ◌<◌, ◌≤◌, min}
use Rattle.usage.specs.Limits.{most_nodes, node_fields}
use Rattle.usage.specs.Outline.{Form}
use Rattle.outline_nodes.specs.Said.{said_by}
use Rattle.outline_nodes.proofs.SaidLaws.{said-some, said-none}
use Rattle.checker_account.specs.Tables.{meanings, least}
use Rattle.checker_account.specs.Filling.{forms_in}
use Rattle.automaton.specs.Mask.{has}
use Rattle.checker_tables.specs.Search.{NodesFit}
use Rattle.checker_tables.specs.Work.{readers_of}
use Rattle.checker_tables.proofs.WorkLaws.{shl-node}
use Rattle.checker_tables.proofs.FitLaws.{readers-fit}
use Rattle.checker_lengths.specs.declared.WatchOne.{WatchOne}
use Rattle.checker_lengths.specs.Filling.{form_here, NodeSettled}
use Rattle.checker_lengths.specs.Code.{Pass}
use Rattle.checker_lengths.proofs.PassLaws.{pass-none}
use Rattle.checker_lengths.proofs.LeftLaws.{left_of, working-start, working-full, still-working, still-less, more-working, more-less}
use Rattle.checker_lengths.proofs.MemberLaws.{member-le, member-lt}
use Rattle.checker_lengths.proofs.fill.settle_all.Goals as goal
use Rattle.checker_lengths.proofs.fill.settle_all.Invariants.{Left}

fewer : (n : ℕ) → n ≤ most_nodes → min n most_nodes ≡ n
fewer n h = omega arith

positive : (s : ℕ) → (s ≡ 0 → ⊥) → 0 < s
positive s d = omega arith

-- a node that is left
module _ (w : WatchOne) (rows nodes come : List ℕ) (l : ℕ) (fit : NodesFit nodes) (t : List ℕ) (s k : ℕ) (h : Left w rows nodes come l t s)
    (in-s : has s k ≡ true) where
  abbrev n : ℕ
  n = length nodes / node_fields

  inside : k < n
  inside = member-lt s k in-s n h.left

  small : k < most_nodes
  small = let b = inside in let f = fit.few in omega arith

  abbrev bit : ℕ
  bit = 1 * 2 ^ k % 2 ^ 64

  bit-low : bit ≤ s
  bit-low = let m = member-le s k in-s in omega (arith, shl-node k small)

  -- it was settled, having the form f; r: did that change the table?
  module _ (u : List ℕ) (f : Option Form) (at : f ≡ form_here nodes k) (r : Bool)
      (p : Pass w rows k f (λ y. NodeSettled w rows f come y l k) t u r) where
    here : Pass w rows k (form_here nodes k) (λ y. NodeSettled w rows (form_here nodes k) come y l k) t u r
    here = subst (λ (f : Option Form). Pass w rows k f (λ y. NodeSettled w rows f come y l k) t u r) at p

    still : r ≡ false → Left w rows nodes come l u (s - bit)
    still g =
        subst (λ (b : ℕ). Left w rows nodes come l u (s - b)) (sym (shl-node k small))
        (still-working w rows nodes come l fit.few t u s k h in-s r here g)

    still-falls : r ≡ false → left_of u (s - bit) < left_of t s
    still-falls g =
        subst (λ (b : ℕ). left_of u (s - b) < left_of t s) (sym (shl-node k small))
        (still-less w rows nodes come l fit.few t u s k h in-s r here g)

    module _ (readers : List ℕ) (e : readers ≡ readers_of n (forms_in nodes)) (g : r ≡ true) where
      more : Left w rows nodes come l u (bit_or (s - bit) (get_or readers k 0))
      more =
          subst (Left w rows nodes come l u)
          (ap₂ (λ (b : ℕ) (m : List ℕ). bit_or (s - b) (get_or m k 0)) (sym (shl-node k small)) (sym e))
          (more-working w rows nodes come l fit.few t u s k h in-s r here g)

      more-falls : left_of u (bit_or (s - bit) (get_or readers k 0)) < left_of t s
      more-falls =
          let b : 2 ^ n ≤ 18446744073709551616 = pow_mono fit.few in
          more-less w rows nodes come l fit.few t u s k h in-s r here g (bit_or (s - bit) (get_or readers k 0))
          (omega (arith, more.left))

pub loop-left-init : goal.loop-left-init
loop-left-init c =
    let a = c.args in
    let p = c.requires in
    let l = c.least-l.result in (
      lit< tt,
      subst (Left a.w a.rows.now a.nodes.now a.u.now l _) (sym (c.all-left.ensures ∙ ap (λ (n : ℕ). 2 ^ n - 1) (fewer
          (length a.nodes.now / node_fields) p.few)))
          (working-start a.w a.rows.now a.nodes.now a.u.now l p.few),
    )

pub overflow_cast-left : goal.overflow_cast-left
overflow_cast-left c =
    let a = c.args in
    let p = c.requires in
    let l = c.least-l.result in
    let i = c.loop-left in
    let h = c.next-k in
    let k = small a.w a.rows.now a.nodes.now a.u.now l p i.t i.left h.result i.invariant.1 h.ensures in
    omega arith

pub overflow_shl-left : goal.overflow_shl-left
overflow_shl-left c =
    let a = c.args in
    let p = c.requires in
    let l = c.least-l.result in
    let i = c.loop-left in
    let h = c.next-k in
    let k = small a.w a.rows.now a.nodes.now a.u.now l p i.t i.left h.result i.invariant.1 h.ensures in
    omega arith

pub overflow_sub-left : goal.overflow_sub-left
overflow_sub-left c =
    let a = c.args in
    let p = c.requires in
    let l = c.least-l.result in
    let i = c.loop-left in
    let h = c.next-k in
    bit-low a.w a.rows.now a.nodes.now a.u.now l p i.t i.left h.result i.invariant.1 h.ensures

pub settle_node-requires : goal.settle_node-requires
settle_node-requires c =
    let a = c.args in
    let p = c.requires in
    let l = c.least-l.result in
    let i = c.loop-left in
    let h = c.next-k in
    let low : l < meanings = omega (arith, c.least-l.ensures.upper_bound) in record {
      l_lt_meanings = low;
      k_lt_most_nodes = small a.w a.rows.now a.nodes.now a.u.now l p i.t i.left h.result i.invariant.1
          h.ensures;
    }

pub offset_bounds-readers-k : goal.offset_bounds-readers-k
offset_bounds-readers-k c =
    let a = c.args in
    let p = c.requires in
    let l = c.least-l.result in
    let i = c.loop-left in
    let h = c.next-k in
    let k = small a.w a.rows.now a.nodes.now a.u.now l p i.t i.left h.result i.invariant.1 h.ensures in
    omega arith

pub bounds-readers-k : goal.bounds-readers-k
bounds-readers-k c =
    let a = c.args in
    let p = c.requires in
    let l = c.least-l.result in
    let i = c.loop-left in
    let h = c.next-k in
    small a.w a.rows.now a.nodes.now a.u.now l p i.t i.left h.result i.invariant.1 h.ensures

pub loop-left-smaller-then-settle_node : goal.loop-left-smaller-then-settle_node
loop-left-smaller-then-settle_node c =
    let a = c.args in
    let p = c.requires in
    let l = c.least-l.result in
    let i = c.loop-left in
    let h = c.next-k in
    let s = c.settle_node in
    let d = c.in-Some.form in
    let at = sym (said-some c.in-Some.is) ∙ c.form.ensures in
    let r = c.readers in
    more-falls a.w a.rows.now a.nodes.now a.u.now l p i.t i.left h.result i.invariant.1 h.ensures
    s.new.t (said_by d) at s.result s.ensures
    r.new.masks (r.ensures ∙ readers-fit a.nodes.now p) c.if-settle_node.true

pub loop-left-preserved-then-settle_node : goal.loop-left-preserved-then-settle_node
loop-left-preserved-then-settle_node c =
    let a = c.args in
    let p = c.requires in
    let l = c.least-l.result in
    let i = c.loop-left in
    let h = c.next-k in
    let s = c.settle_node in
    let d = c.in-Some.form in
    let at = sym (said-some c.in-Some.is) ∙ c.form.ensures in
    let r = c.readers in
    let b = small a.w a.rows.now a.nodes.now a.u.now l p i.t i.left h.result i.invariant.1 h.ensures in (
      b,
      more a.w a.rows.now a.nodes.now a.u.now l p i.t i.left h.result i.invariant.1 h.ensures
          s.new.t (said_by d) at s.result s.ensures
          r.new.masks (r.ensures ∙ readers-fit a.nodes.now p) c.if-settle_node.true,
    )

pub loop-left-smaller-else-settle_node : goal.loop-left-smaller-else-settle_node
loop-left-smaller-else-settle_node c =
    let a = c.args in
    let p = c.requires in
    let l = c.least-l.result in
    let i = c.loop-left in
    let h = c.next-k in
    let s = c.settle_node in
    let d = c.in-Some.form in
    let at = sym (said-some c.in-Some.is) ∙ c.form.ensures in
    still-falls a.w a.rows.now a.nodes.now a.u.now l p i.t i.left h.result i.invariant.1 h.ensures
    s.new.t (said_by d) at s.result s.ensures
    c.if-settle_node.false

pub loop-left-preserved-else-settle_node : goal.loop-left-preserved-else-settle_node
loop-left-preserved-else-settle_node c =
    let a = c.args in
    let p = c.requires in
    let l = c.least-l.result in
    let i = c.loop-left in
    let h = c.next-k in
    let s = c.settle_node in
    let d = c.in-Some.form in
    let at = sym (said-some c.in-Some.is) ∙ c.form.ensures in
    let b = small a.w a.rows.now a.nodes.now a.u.now l p i.t i.left h.result i.invariant.1 h.ensures in (
      b,
      still a.w a.rows.now a.nodes.now a.u.now l p i.t i.left h.result i.invariant.1 h.ensures
          s.new.t (said_by d) at s.result s.ensures
          c.if-settle_node.false,
    )

-- a node without a form has no rule
pub loop-left-smaller : goal.loop-left-smaller
loop-left-smaller c =
    let a = c.args in
    let i = c.loop-left in
    let at = sym (said-none c.form.result c.in_default.not-Some) ∙ c.form.ensures in
    still-falls a.w a.rows.now a.nodes.now a.u.now c.least-l.result c.requires i.t i.left c.next-k.result i.invariant.1 c.next-k.ensures
    i.t none at false (pass-none (λ o m q low high few come r less. absurd (not-suc-le-zero less))) refl

pub loop-left-preserved : goal.loop-left-preserved
loop-left-preserved c =
    let a = c.args in
    let i = c.loop-left in
    let l = c.least-l.result in
    let h = c.next-k in
    let at = sym (said-none c.form.result c.in_default.not-Some) ∙ c.form.ensures in (
      small a.w a.rows.now a.nodes.now a.u.now l c.requires i.t i.left h.result i.invariant.1 h.ensures,
      still a.w a.rows.now a.nodes.now a.u.now l c.requires i.t i.left h.result i.invariant.1 h.ensures
          i.t none at false (pass-none (λ o m q low high few come r less. absurd (not-suc-le-zero less))) refl,
    )

pub returns : goal.returns
returns c =
    let a = c.args in
    let l = c.least-l in
    let i = c.loop-left in
    working-full a.w a.rows.now a.nodes.now a.u.now l.result
    c.requires.few (l.ensures.value ∙ ap least c.resources.ensures)
    (subst (Left a.w a.rows.now a.nodes.now a.u.now l.result i.t) c.loop-left-test.false i.invariant.1)
