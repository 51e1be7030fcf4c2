use native.Mathlib.Omega.{arith}
use mathlib.Core.Path.{◌≡◌, refl, sym, ap, ◌∙◌}
use mathlib.Core.Bool.{Bool, true, not}
use mathlib.Core.Option.{Option}
use mathlib.Core.List.{List}
use Prim.Native.Nat.{ℕ, ◌/◌, ◌<◌, ◌≤◌}
use lib.ListN.{length}
use borrow.Author.Tests.{le-leb, lt-leb}
use Rattle.usage.specs.Limits.{most_nodes, node_fields}
use Rattle.usage.specs.Outline.{Form, form_at}
use Rattle.usage.specs.Tables.{nodes_of}
use Rattle.usage.specs.Tests.{some_below}
use Rattle.automaton.proofs.MaskLaws.{some_at}
use Rattle.outline_nodes.proofs.SaidLaws.{form-at, said-some, said-none}
use Rattle.checker_account.specs.Filling.{forms_in}
use Rattle.checker_account.proofs.CodeLaws.{none_more}
use Rattle.checker_tables.specs.Search.{small, has_room}
use Rattle.checker_tables.proofs.fits.Goals as goal
use Rattle.checker_tables.proofs.fits.Goals.{in-Some+else-not-small, in_default}
use Rattle.checker_tables.proofs.fits.Invariants.{big}

-- what the code says of node k
here : (t : List ℕ) (k : ℕ) {o : Option Form} {r : Bool} → k < length t / node_fields → o ≡ form_at (nodes_of t) k → r ≡ small o
    → small (forms_in t k) ≡ r
here t k l e g = sym (g ∙ ap small (e ∙ form-at t k l))

pub returns-then-n-gt-MOST_NODES : goal.returns-then-n-gt-MOST_NODES
unfolding has_room
returns-then-n-gt-MOST_NODES c =
    let n = length c.args.nodes.now / node_fields in
    simp (lt-leb n most_nodes (omega (arith, c.if-n-gt-MOST_NODES.true)))

pub loop-k-init : goal.loop-k-init
unfolding some_below
loop-k-init c = refl

pub returns-then-not-small : goal.returns-then-not-small
unfolding has_room
returns-then-not-small c =
    let t = c.args.nodes.now in
    let k = c.loop-k.k in
    let l = c.loop-k-test.true in
    let s = here t k l (sym (said-some c.in-Some.is) ∙ c.form.ensures) c.small.ensures ∙ c.if-not-small.true in
    let e = some_at (length t / node_fields) (big t) k l (ap not s) in
    let few : length t / node_fields ≤ most_nodes = omega (arith, c.if-n-gt-MOST_NODES.false) in
    simp (le-leb (length t / node_fields) most_nodes few, e)

pub loop-k-preserved : goal.loop-k-preserved
unfolding small
loop-k-preserved c =
    let t = c.args.nodes.now in
    let k = c.loop-k.k in
    let l = c.loop-k-test.true in
    let s : small (forms_in t k) ≡ true =
    elim c.match-form.branch [ in-Some+else-not-small w ↦ here t k l (sym (said-some w.in-Some.is) ∙ c.form.ensures) w.small.ensures ∙ w.if-not-small.false | in_default w ↦ here t k l (sym (said-none _ w.in_default.not-Some) ∙ c.form.ensures) refl ] in
    none_more (big t) k c.loop-k.invariant (ap not s)

pub returns : goal.returns
unfolding has_room
returns c =
    let l = c.loop-k in
    let n = length c.args.nodes.now / node_fields in
    let e : l.k ≡ n = omega arith in
    let few : n ≤ most_nodes = omega (arith, c.if-n-gt-MOST_NODES.false) in
    simp (le-leb n most_nodes few, rw e at l.invariant)
