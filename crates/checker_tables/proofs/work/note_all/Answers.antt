use native.Mathlib.Omega.{arith}
use mathlib.Core.Path.{◌≡◌, sym, ap, ◌∙◌, subst}
use Prim.Native.Nat.{ℕ, ◌/◌, ◌≤◌}
use lib.ListN.{length, replicate}
use Rattle.usage.specs.Limits.{most_nodes, node_fields}
use mathlib.Core.Option.{Option}
use Rattle.usage.specs.Outline.{Form}
use Rattle.outline_nodes.proofs.SaidLaws.{form-at, said-some, said-none}
use Rattle.checker_account.specs.Filling.{repeat, forms_in}
use Rattle.checker_account.proofs.GrowsLaws.{repeat-more}
use Rattle.checker_tables.specs.Search.{Small}
use Rattle.checker_tables.specs.Work.{noted, readers_of}
use Rattle.checker_tables.proofs.work.note_all.Goals as goal
use Rattle.checker_tables.proofs.work.note_all.Goals.{in-Some, in_default}
use mathlib.Core.List.{List}
use Rattle.checker_tables.proofs.work.note_all.Invariants.{steps}

pub loop-k-init : goal.loop-k-init
unfolding repeat
loop-k-init c = c.requires.masks_value

pub note_parts-requires : goal.note_parts-requires
note_parts-requires c =
    let a = c.args in
    let k = c.loop-k.k in
    let p = c.requires in
    let h = c.loop-k-test.true in
    let few : length a.nodes.now / node_fields ≤ most_nodes = p.nodes_fit.few in
    let is = sym (said-some c.in-Some.is) ∙ c.form.ensures ∙ form-at a.nodes.now k h in
    record { small = subst Small (sym is) (p.nodes_fit.each_small k h); k_lt_most_nodes = omega arith }

pub loop-k-preserved : goal.loop-k-preserved
unfolding noted
loop-k-preserved c =
    let a = c.args in
    let l = c.loop-k in
    let by : Option Form → List ℕ = λ d. noted l.k d l.masks in
    let at = c.form.ensures ∙ form-at a.nodes.now l.k c.loop-k-test.true in
    let e : c.match-form.masks ≡ by (forms_in a.nodes.now l.k) =
    elim c.match-form.branch [ in-Some w ↦ w.masks-is ∙ w.note_parts.ensures ∙ ap by (sym (said-some w.in-Some.is) ∙ at) | in_default w ↦ w.masks-is ∙ ap by (sym (said-none _ w.in_default.not-Some) ∙ at) ] in
    repeat-more (steps a.nodes.now) l.k (replicate most_nodes 0) l.masks c.match-form.masks l.invariant e

pub returns : goal.returns
unfolding readers_of
returns c =
    let l = c.loop-k in
    let e : l.k ≡ length c.args.nodes.now / node_fields = omega arith in
    rw e at l.invariant
