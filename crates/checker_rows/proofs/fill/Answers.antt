use native.Mathlib.Omega.{arith}
use mathlib.Core.Path.{◌≡◌, refl, sym, ap, ◌∙◌}
use Prim.Native.Nat.{ℕ, ◌/◌}
use lib.ListN.{length, replicate}
use Rattle.usage.specs.Limits.{node_fields}
use mathlib.Core.Option.{Option}
use Rattle.usage.specs.Outline.{Form}
use Rattle.outline_nodes.proofs.SaidLaws.{form-at, said-some, said-none}
use Rattle.usage.specs.Tables.{edges_of}
use Rattle.automaton.specs.Move.{rows_at}
use Rattle.checker_account.specs.Filling.{repeat, forms_in}
use Rattle.checker_account.specs.RowTable.{node_rows, fill_rows}
use Rattle.checker_account.proofs.GrowsLaws.{repeat-more}
use Rattle.checker_rows.proofs.WholeLaws.{whole_in, no-policy, no_room}
use Rattle.checker_account.specs.Tables.{places}
use Rattle.checker_rows.proofs.fill.Goals as goal
use Rattle.checker_rows.proofs.fill.Goals.{in-Some, in_default}
use mathlib.Core.List.{List}
use Rattle.checker_rows.proofs.fill.Invariants.{steps}

pub returns-then-p-ge-POLICIES : goal.returns-then-p-ge-POLICIES
returns-then-p-ge-POLICIES c =
    let a = c.args in
    sym (no-policy (rows_at (edges_of a.edges.now)) a.pair a.p a.nodes.now c.if-p-ge-POLICIES.true)

pub returns-then-n-gt-MOST_NODES : goal.returns-then-n-gt-MOST_NODES
returns-then-n-gt-MOST_NODES c =
    let a = c.args in
    sym (no_room (rows_at (edges_of a.edges.now)) a.pair a.p a.nodes.now c.if-n-gt-MOST_NODES.true)

pub loop-k-init : goal.loop-k-init
unfolding repeat
loop-k-init c = refl

pub loop-k-preserved : goal.loop-k-preserved
unfolding node_rows
loop-k-preserved c =
    let a = c.args in
    let l = c.loop-k in
    let h = c.loop-k-test.true in
    let by : Option Form → List ℕ = λ d. node_rows (rows_at (edges_of a.edges.now)) a.pair a.p l.k d l.rows in
    let at = c.form.ensures ∙ form-at a.nodes.now l.k h in
    let e : c.match-form.rows ≡ by (forms_in a.nodes.now l.k) =
    elim c.match-form.branch [ in-Some w ↦ w.rows-is ∙ w.of_node.ensures ∙ ap by (sym (said-some w.in-Some.is) ∙ at) | in_default w ↦ w.rows-is ∙ ap by (sym (said-none _ w.in_default.not-Some) ∙ at) ] in
    let f = steps a.edges.now a.nodes.now a.p a.pair in
    repeat-more f l.k (replicate places 0) l.rows c.match-form.rows l.invariant e

pub returns : goal.returns
unfolding fill_rows
returns c =
    let a = c.args in
    let l = c.loop-k in
    let e : l.k ≡ length a.nodes.now / node_fields = omega arith in
    (rw e at l.invariant)
    ∙ sym
    (whole_in (rows_at (edges_of a.edges.now)) a.pair a.p a.nodes.now c.if-p-ge-POLICIES.false
    c.if-n-gt-MOST_NODES.false)
