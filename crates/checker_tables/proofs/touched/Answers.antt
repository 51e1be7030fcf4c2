use native.Mathlib.Omega.{arith}
use mathlib.Core.Path.{◌≡◌, refl, sym, ap, ap₂, ◌∙◌}
use mathlib.Core.Bool.{Bool, false, ◌||◌}
use mathlib.Core.Option.{Option}
use mathlib.Core.List.{List}
use Prim.Native.Nat.{ℕ, ◌/◌, ◌<◌}
use lib.Dec.{leb}
use lib.ListN.{length}
use borrow.Author.Tests.{le-leb, lt-leb}
use Rattle.usage.specs.Limits.{node_fields}
use Rattle.usage.specs.Outline.{Form, form_at}
use Rattle.usage.specs.Tables.{nodes_of}
use Rattle.usage.specs.Tests.{some_below}
use Rattle.usage.proofs.Logic.{or_left, or_right}
use Rattle.automaton.proofs.MaskLaws.{some_at}
use Rattle.outline_nodes.proofs.SaidLaws.{form-at, said-some, said-none}
use Rattle.checker_account.specs.Account.{watched}
use Rattle.checker_account.proofs.CodeLaws.{none_more}
use Rattle.checker_tables.specs.Search.{is_on_lem, touched}
use Rattle.checker_tables.proofs.touched.Goals as goal
use Rattle.checker_tables.proofs.touched.Goals.{in-Some+else-is_on, in_default}
use Rattle.checker_tables.proofs.touched.Invariants.{on}

-- what the code says of node k
here : (t : List ℕ) (x k : ℕ) {o : Option Form} {r : Bool} → k < length t / node_fields → o ≡ form_at (nodes_of t) k
    → r ≡ is_on_lem x o → on t x k ≡ r
here t x k l e g = sym (g ∙ ap (is_on_lem x) (e ∙ form-at t k l))

pub returns-then-x-ge-WATCHED : goal.returns-then-x-ge-WATCHED
unfolding touched
returns-then-x-ge-WATCHED c =
    let a = c.args in
    sym (or_left (leb watched a.x) (some_below (on a.nodes.now a.x) (length a.nodes.now / node_fields))
    (le-leb watched a.x c.if-x-ge-WATCHED.true))

pub loop-k-init : goal.loop-k-init
unfolding some_below
loop-k-init c = refl

pub returns-then-is_on : goal.returns-then-is_on
unfolding touched
returns-then-is_on c =
    let a = c.args in
    let k = c.loop-k.k in
    let l = c.loop-k-test.true in
    let e = here a.nodes.now a.x k l (sym (said-some c.in-Some.is) ∙ c.form.ensures) c.is_on.ensures ∙ c.if-is_on.true in
    sym (or_right (leb watched a.x) (some_below (on a.nodes.now a.x) (length a.nodes.now / node_fields))
    (some_at (length a.nodes.now / node_fields) (on a.nodes.now a.x) k l e))

pub loop-k-preserved : goal.loop-k-preserved
loop-k-preserved c =
    let a = c.args in
    let k = c.loop-k.k in
    let l = c.loop-k-test.true in
    let e : on a.nodes.now a.x k ≡ false =
    elim c.match-form.branch [ in-Some+else-is_on w ↦ here a.nodes.now a.x k l (sym (said-some w.in-Some.is) ∙ c.form.ensures) w.is_on.ensures ∙ w.if-is_on.false | in_default w ↦ here a.nodes.now a.x k l (sym (said-none _ w.in_default.not-Some) ∙ c.form.ensures) refl ] in
    none_more (on a.nodes.now a.x) k c.loop-k.invariant e

pub returns : goal.returns
unfolding touched
returns c =
    let l = c.loop-k in
    let a = c.args in
    let n = length a.nodes.now / node_fields in
    let e : l.k ≡ n = omega arith in
    let none : some_below (on a.nodes.now a.x) n ≡ false = rw e at l.invariant in
    sym (ap₂ (λ (p q : Bool). p || q) (lt-leb watched a.x c.if-x-ge-WATCHED.false) none)
