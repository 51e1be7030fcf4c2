use native.Mathlib.Omega.{arith}
use mathlib.Core.Path.{◌≡◌, refl, sym, ap, ap₂, ◌∙◌, subst}
use mathlib.Core.Bool.{Bool, true, false}
use mathlib.Core.List.{List}
use Prim.Native.Nat.{ℕ, suc, ◌-◌, ◌*◌, ◌/◌, ◌%◌, ◌^◌, ◌≤◌, ◌<◌, min}
use lib.Bits.{bit_or}
use lib.Pow.{pow_mono}
use lib.ListN.{length, get_or, length-replicate}
use Rattle.usage.specs.Limits.{most_nodes, node_fields}
use mathlib.Core.Option.{Option, none}
use Rattle.usage.specs.Outline.{Form}
use Rattle.outline_nodes.specs.Said.{said_by}
use Rattle.checker_account.specs.declared.Resources.{Resources}
use Rattle.checker_account.specs.Tables.{places_of, rows_in, Resets}
use Rattle.checker_account.specs.Filling.{grown, forms_in, settle_node_lem, Wide}
use Rattle.checker_account.proofs.SettleLaws.{WideLent}
use Rattle.checker_tables.specs.Search.{NodesFit, resets_if}
use Rattle.checker_tables.specs.Work.{readers_of}
use Rattle.checker_tables.proofs.FitLaws.{form-small}
use Rattle.checker_tables.proofs.WorkLaws.{left_of, shl-node, highest-lt, placed-forms, working-start, working-length, working-ends}
use Rattle.checker_tables.proofs.WorkLaws.{still-working, still-less, more-working, more-less}
use Rattle.checker_tables.proofs.ends.fill.Goals as goal
use Rattle.outline_nodes.proofs.SaidLaws.{form-at, said-some, said-none}
use Rattle.checker_tables.proofs.NoneLaws.{none-settled}
use Rattle.checker_account.proofs.GrowsLaws.{grown-self}
use Rattle.checker_tables.proofs.ends.fill.Invariants.{Done}

-- what is lent is a table of 16 bits
lent-wide : (reset : Bool) (p : ℕ) (opened : List ℕ) → (reset ≡ true → Wide opened) → WideLent (resets_if reset p opened)
lent-wide false p opened w = tt
lent-wide true p opened w = w refl

fewer : (n : ℕ) → n ≤ most_nodes → min n most_nodes ≡ n
fewer n h = omega arith

positive : (s : ℕ) → (s ≡ 0 → ⊥) → 0 < s
positive s d = omega arith

-- the highest node that is left
module _ (nodes rows : List ℕ) (x : Resources) (resets : Resets) (fit : NodesFit nodes) (t : List ℕ) (s k : ℕ)
    (w : Done nodes rows x resets t s) (low : 2 ^ k ≤ s)
    (high : s < 2 ^ suc k) where
  abbrev n : ℕ
  n = length nodes / node_fields

  inside : k < n
  inside = highest-lt s k low high n w.nodes

  small : k < most_nodes
  small = let b = inside in let f = fit.few in omega arith

  abbrev bit : ℕ
  bit = 1 * 2 ^ k % 2 ^ 64

  bit-low : bit ≤ s
  bit-low = omega (arith, shl-node k small)

  -- it was settled, as d says; grew: did that change the table?
  module _ (u : List ℕ) (d : Option Form) (at : d ≡ forms_in nodes k)
      (made : u ≡ settle_node_lem (rows_in rows) x resets k d t) (grew : Bool) (tells : grew ≡ grown t u) where
    e : u ≡ settle_node_lem (rows_in rows) x resets k (forms_in nodes k) t
    e = made ∙ ap (λ (f : Option Form). settle_node_lem (rows_in rows) x resets k f t) at

    still : grew ≡ false → Done nodes rows x resets u (s - bit)
    still g =
        subst (λ (b : ℕ). Done nodes rows x resets u (s - b)) (sym (shl-node k small))
        (still-working (rows_in rows) x resets n (forms_in nodes) fit.few t u s k w low high e (sym tells ∙ g))

    still-falls : grew ≡ false → left_of (places_of x) u (s - bit) < left_of (places_of x) t s
    still-falls g =
        subst (λ (b : ℕ). left_of (places_of x) u (s - b) < left_of (places_of x) t s) (sym (shl-node k small))
        (still-less (rows_in rows) x resets n (forms_in nodes) fit.few t u s k w low high e (sym tells ∙ g))

    module _ (lent : WideLent resets) (readers : List ℕ) (r : readers ≡ readers_of n (forms_in nodes))
        (g : grew ≡ true) where
      more : Done nodes rows x resets u (bit_or (s - bit) (get_or readers k 0))
      more =
          subst (Done nodes rows x resets u)
          (ap₂ (λ (b : ℕ) (m : List ℕ). bit_or (s - b) (get_or m k 0)) (sym (shl-node k small)) (sym r))
          (more-working (rows_in rows) x resets n (forms_in nodes) fit.few t u s k w low high e lent (placed-forms nodes fit) (sym tells ∙ g))

      more-falls : left_of (places_of x) u (bit_or (s - bit) (get_or readers k 0)) < left_of (places_of x) t s
      more-falls =
          let b : 2 ^ n ≤ 18446744073709551616 = pow_mono fit.few in
          more-less (rows_in rows) x resets n (forms_in nodes) fit.few t u s k w low high e lent (placed-forms nodes fit)
          (sym tells ∙ g)
          (bit_or (s - bit) (get_or readers k 0)) (omega (arith, more.nodes))

pub note_all-requires : goal.note_all-requires
note_all-requires c =
    record { nodes_fit = c.requires.nodes_fit; masks_value = refl }

pub loop-left-init : goal.loop-left-init
loop-left-init c =
    let a = c.args in
    let resets = resets_if a.w.local a.w.policy a.opened.now in
    let p = c.requires in
    subst (Done a.nodes.now a.rows.now a.w.resources resets a.t.now)
    (sym (c.all-left.ensures ∙ ap (λ (n : ℕ). 2 ^ n - 1) (fewer (length a.nodes.now / node_fields) p.nodes_fit.few)))
    (subst (λ (u : List ℕ). Done a.nodes.now a.rows.now a.w.resources resets u (2 ^ (length
    a.nodes.now / node_fields) - 1))
    (sym p.t_value)
    (working-start (rows_in a.rows.now) a.w.resources resets (length a.nodes.now / node_fields)
    (forms_in a.nodes.now)
    p.nodes_fit.few))

pub overflow_cast-left : goal.overflow_cast-left
overflow_cast-left c =
    let a = c.args in
    let resets = resets_if a.w.local a.w.policy a.opened.now in
    let p = c.requires in
    let l = c.loop-left in
    let pos = positive l.left c.loop-left-test.true in
    let h = c.highest-k in
    let k = small a.nodes.now a.rows.now a.w.resources resets p.nodes_fit l.t l.left h.result
    l.invariant (h.ensures.result_bound pos)
    h.ensures.s_bound in
    omega arith

pub overflow_cast-left-in-loop-left : goal.overflow_cast-left-in-loop-left
overflow_cast-left-in-loop-left c =
    let a = c.args in
    let resets = resets_if a.w.local a.w.policy a.opened.now in
    let p = c.requires in
    let l = c.loop-left in
    let pos = positive l.left c.loop-left-test.true in
    let h = c.highest-k in
    let k = small a.nodes.now a.rows.now a.w.resources resets p.nodes_fit l.t l.left h.result
    l.invariant (h.ensures.result_bound pos)
    h.ensures.s_bound in
    omega arith

pub overflow_shl-left : goal.overflow_shl-left
overflow_shl-left c =
    let a = c.args in
    let resets = resets_if a.w.local a.w.policy a.opened.now in
    let p = c.requires in
    let l = c.loop-left in
    let pos = positive l.left c.loop-left-test.true in
    let h = c.highest-k in
    let k = small a.nodes.now a.rows.now a.w.resources resets p.nodes_fit l.t l.left h.result
    l.invariant (h.ensures.result_bound pos)
    h.ensures.s_bound in
    omega arith

pub overflow_sub-left : goal.overflow_sub-left
overflow_sub-left c =
    let a = c.args in
    let resets = resets_if a.w.local a.w.policy a.opened.now in
    let p = c.requires in
    let l = c.loop-left in
    let pos = positive l.left c.loop-left-test.true in
    let h = c.highest-k in
    bit-low a.nodes.now a.rows.now a.w.resources resets p.nodes_fit l.t l.left h.result l.invariant
    (h.ensures.result_bound pos)
    h.ensures.s_bound

pub invariant_of-s : goal.invariant_of-s
invariant_of-s c =
    let a = c.args in
    let resets = resets_if a.w.local a.w.policy a.opened.now in
    let fit = c.requires.nodes_fit in
    let l = c.loop-left in
    let pos = positive l.left c.loop-left-test.true in
    let h = c.highest-k in
    let k = inside a.nodes.now a.rows.now a.w.resources resets fit l.t l.left h.result
    l.invariant (h.ensures.result_bound pos)
    h.ensures.s_bound in
    record { node_in = omega (arith, k, fit.few); form_small = form-small fit h.result k _ (sym (said-some c.in-Some.is) ∙ c.form.ensures ∙ form-at a.nodes.now h.result k) }

pub settle_node-requires : goal.settle_node-requires
settle_node-requires c =
    let a = c.args in
    let resets = resets_if a.w.local a.w.policy a.opened.now in
    let p = c.requires in
    record {
      t_len = working-length (rows_in a.rows.now) a.w.resources resets (length a.nodes.now / node_fields)
          (forms_in a.nodes.now)
          p.nodes_fit.few
          c.loop-left.invariant;
      opened_len = p.opened_len;
    }

pub offset_bounds-readers-k : goal.offset_bounds-readers-k
offset_bounds-readers-k c =
    let a = c.args in
    let resets = resets_if a.w.local a.w.policy a.opened.now in
    let p = c.requires in
    let l = c.loop-left in
    let pos = positive l.left c.loop-left-test.true in
    let h = c.highest-k in
    let k = small a.nodes.now a.rows.now a.w.resources resets p.nodes_fit l.t l.left h.result
    l.invariant (h.ensures.result_bound pos)
    h.ensures.s_bound in
    omega arith

pub bounds-readers-k : goal.bounds-readers-k
bounds-readers-k c =
    let a = c.args in
    let resets = resets_if a.w.local a.w.policy a.opened.now in
    let p = c.requires in
    let l = c.loop-left in
    let pos = positive l.left c.loop-left-test.true in
    let h = c.highest-k in
    small a.nodes.now a.rows.now a.w.resources resets p.nodes_fit l.t l.left h.result l.invariant
    (h.ensures.result_bound pos)
    h.ensures.s_bound

pub loop-left-smaller-then-settle_node : goal.loop-left-smaller-then-settle_node
loop-left-smaller-then-settle_node c =
    let a = c.args in
    let resets = resets_if a.w.local a.w.policy a.opened.now in
    let p = c.requires in
    let r = c.note_all in
    let l = c.loop-left in
    let pos = positive l.left c.loop-left-test.true in
    let h = c.highest-k in
    let here = inside a.nodes.now a.rows.now a.w.resources resets p.nodes_fit l.t l.left h.result l.invariant (h.ensures.result_bound pos)
    h.ensures.s_bound in
    let s = c.settle_node in
    let d = c.in-Some in
    more-falls a.nodes.now a.rows.now a.w.resources resets p.nodes_fit l.t l.left h.result
    l.invariant (h.ensures.result_bound pos)
    h.ensures.s_bound s.new.t (said_by d.f) (sym (said-some d.is) ∙ c.form.ensures ∙ form-at a.nodes.now h.result here) s.ensures.t_after s.result s.ensures.value
    (lent-wide a.w.local a.w.policy a.opened.now p.opened_wide) r.new.masks r.ensures
    c.if-settle_node.true

pub loop-left-preserved-then-settle_node : goal.loop-left-preserved-then-settle_node
loop-left-preserved-then-settle_node c =
    let a = c.args in
    let resets = resets_if a.w.local a.w.policy a.opened.now in
    let p = c.requires in
    let r = c.note_all in
    let l = c.loop-left in
    let pos = positive l.left c.loop-left-test.true in
    let h = c.highest-k in
    let here = inside a.nodes.now a.rows.now a.w.resources resets p.nodes_fit l.t l.left h.result l.invariant (h.ensures.result_bound pos)
    h.ensures.s_bound in
    let s = c.settle_node in
    let d = c.in-Some in
    more a.nodes.now a.rows.now a.w.resources resets p.nodes_fit l.t l.left h.result l.invariant
    (h.ensures.result_bound pos)
    h.ensures.s_bound s.new.t (said_by d.f) (sym (said-some d.is) ∙ c.form.ensures ∙ form-at a.nodes.now h.result here) s.ensures.t_after s.result s.ensures.value
    (lent-wide a.w.local a.w.policy a.opened.now p.opened_wide) r.new.masks r.ensures
    c.if-settle_node.true

pub loop-left-smaller-else-settle_node : goal.loop-left-smaller-else-settle_node
loop-left-smaller-else-settle_node c =
    let a = c.args in
    let resets = resets_if a.w.local a.w.policy a.opened.now in
    let p = c.requires in
    let l = c.loop-left in
    let pos = positive l.left c.loop-left-test.true in
    let h = c.highest-k in
    let here = inside a.nodes.now a.rows.now a.w.resources resets p.nodes_fit l.t l.left h.result l.invariant (h.ensures.result_bound pos)
    h.ensures.s_bound in
    let s = c.settle_node in
    let d = c.in-Some in
    still-falls a.nodes.now a.rows.now a.w.resources resets p.nodes_fit l.t l.left h.result
    l.invariant (h.ensures.result_bound pos)
    h.ensures.s_bound s.new.t (said_by d.f) (sym (said-some d.is) ∙ c.form.ensures ∙ form-at a.nodes.now h.result here) s.ensures.t_after s.result s.ensures.value c.if-settle_node.false

pub loop-left-preserved-else-settle_node : goal.loop-left-preserved-else-settle_node
loop-left-preserved-else-settle_node c =
    let a = c.args in
    let resets = resets_if a.w.local a.w.policy a.opened.now in
    let p = c.requires in
    let l = c.loop-left in
    let pos = positive l.left c.loop-left-test.true in
    let h = c.highest-k in
    let here = inside a.nodes.now a.rows.now a.w.resources resets p.nodes_fit l.t l.left h.result l.invariant (h.ensures.result_bound pos)
    h.ensures.s_bound in
    let s = c.settle_node in
    let d = c.in-Some in
    still a.nodes.now a.rows.now a.w.resources resets p.nodes_fit l.t l.left h.result l.invariant
    (h.ensures.result_bound pos)
    h.ensures.s_bound s.new.t (said_by d.f) (sym (said-some d.is) ∙ c.form.ensures ∙ form-at a.nodes.now h.result here) s.ensures.t_after s.result s.ensures.value c.if-settle_node.false

pub loop-left-preserved : goal.loop-left-preserved
loop-left-preserved c =
    let a = c.args in
    let resets = resets_if a.w.local a.w.policy a.opened.now in
    let p = c.requires in
    let l = c.loop-left in
    let pos = positive l.left c.loop-left-test.true in
    let h = c.highest-k in
    let here = inside a.nodes.now a.rows.now a.w.resources resets p.nodes_fit l.t l.left h.result l.invariant (h.ensures.result_bound pos)
    h.ensures.s_bound in
    still a.nodes.now a.rows.now a.w.resources resets p.nodes_fit l.t l.left h.result
    l.invariant (h.ensures.result_bound pos)
    h.ensures.s_bound l.t none (sym (said-none _ c.in_default.not-Some) ∙ c.form.ensures ∙ form-at a.nodes.now h.result here)
    (sym (none-settled (rows_in a.rows.now) a.w.resources h.result resets l.t)) false (sym (grown-self l.t)) refl

pub shape_of-t : goal.shape_of-t
shape_of-t c =
    let a = c.args in
    let l = c.loop-left in
    let p = c.requires in
    let resets = resets_if a.w.local a.w.policy a.opened.now in
    working-length (rows_in a.rows.now) a.w.resources resets (length a.nodes.now / node_fields) (forms_in a.nodes.now) p.nodes_fit.few
    l.invariant
    ∙ sym (ap length p.t_value ∙ length-replicate {A = ℕ} (places_of a.w.resources) 0)

pub returns : goal.returns
returns c =
    let a = c.args in
    let resets = resets_if a.w.local a.w.policy a.opened.now in
    let l = c.loop-left in record {
      filled = working-ends (rows_in a.rows.now) a.w.resources resets (length a.nodes.now / node_fields)
          (forms_in a.nodes.now)
          c.requires.nodes_fit.few
          (subst (Done a.nodes.now a.rows.now a.w.resources resets l.t) c.loop-left-test.false
          l.invariant);
      wide = l.invariant.filling.wide;
    }
