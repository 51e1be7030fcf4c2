use mathlib.Core.Path.{◌≡◌, refl, sym, ap, ◌∙◌}
use mathlib.Core.Bool.{Bool, cond}
use Prim.Native.Nat.{ℕ, ◌/◌}
use native.Mathlib.Omega.{arith}
use lib.ListN.{length}
use mathlib.Core.Option.{Option, none}
use Rattle.usage.specs.Limits.{node_fields}
use Rattle.usage.specs.Outline.{Form}
use Rattle.outline_nodes.proofs.SaidLaws.{form-at, said-some, said-none}
use Rattle.automaton.specs.Mask.{union}
use Rattle.checker_account.specs.Tables.{rows_in}
use Rattle.checker_account.specs.Filling.{hit_node_lem}
use Rattle.checker_tables.specs.Marks.{last_in, mark_bit_lem, hit_marks}
use Rattle.checker_tables.proofs.FitLaws.{form-small}
use Rattle.checker_tables.proofs.ByStateLaws.{union_more}
use Rattle.checker_tables.proofs.hits.marks.Goals as goal
use Rattle.checker_tables.proofs.hits.marks.Goals.{in-Some, in_default}
use Rattle.checker_tables.proofs.NoneLaws.{none-marked}
use Rattle.outline_nodes.specs.Said.{said_by}
use lib.Bits.{bit_or, or_zero_r}
use Rattle.checker_tables.proofs.hits.marks.Invariants.{mark}

pub loop-k-init : goal.loop-k-init
unfolding union
loop-k-init c =
    refl

pub invariant_of-s : goal.invariant_of-s
invariant_of-s c =
    let k = c.loop-k.k in
    let h = c.loop-k-test.true in
    let fit = c.requires.nodes_fit in
    let is = sym (said-some c.in-Some.is) ∙ c.form.ensures ∙ form-at c.args.nodes.now k h in
    record { node_in = omega (arith, fit.few); form_small = form-small fit k h _ is }

pub loop-k-preserved : goal.loop-k-preserved
loop-k-preserved c =
    let a = c.args in
    let t = c.loop-k in
    let k = t.k in
    let f = mark a.u.now a.nodes.now a.rows.now a.w.local a.w.policy a.w.resources in
    let hits : Option Form → Bool = λ d. hit_node_lem a.w.local (rows_in a.rows.now) a.w.policy a.w.resources a.u.now k d in
    let marked : Option Form → ℕ = λ d. cond (hits d) (mark_bit_lem (last_in d)) 0 in
    let at = c.form.ensures ∙ form-at a.nodes.now k c.loop-k-test.true in
    let e : c.match-form.m ≡ bit_or t.m (f k) =
    elim c.match-form.branch [
      | in-Some w ↦
          let one = w.mark_if-m.ensures ∙ ap (λ (b : Bool). cond b (mark_bit_lem (last_in (said_by w.in-Some.f))) 0) w.hit_node.ensures in
          w.m-is ∙ ap (bit_or t.m) (one ∙ ap marked (sym (said-some w.in-Some.is) ∙ at))
      | in_default w ↦
          let no = sym (none-marked (hits none)) ∙ ap marked (sym (said-none _ w.in_default.not-Some) ∙ at) in
          w.m-is ∙ sym (or_zero_r t.m) ∙ ap (bit_or t.m) no
    ] in
    e ∙ rw (t.invariant) (union_more f k)

pub returns : goal.returns
unfolding hit_marks
returns c =
    let l = c.loop-k in
    let e : l.k ≡ length c.args.nodes.now / node_fields = omega arith in
    rw e at l.invariant
