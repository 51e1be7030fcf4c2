use mathlib.Core.Path.{sym, ap, ◌∙◌}
use mathlib.Core.Bool.{Bool, ◌&&◌, cond}
use lib.Dec.{ltb}
use lib.ListN.{get_or}
use borrow.Author.Tests.{le-ltb}
use Rattle.usage.specs.Limits.{most_nodes}
use Rattle.usage.proofs.Logic.{and-false}
use Rattle.checker_account.specs.Tables.{meanings, place}
use Rattle.checker_tables.specs.Search.{come_to_lem}
use Rattle.checker_tables.proofs.EnterLaws.{come-to-in}
use Rattle.checker_tables.proofs.arrivals.come_to.Goals as goal

pub returns-then-k-ge-MOST_NODES : goal.returns-then-k-ge-MOST_NODES
unfolding come_to_lem
returns-then-k-ge-MOST_NODES c =
    let a = c.args in
    sym (ap (λ (b : Bool). cond (b && ltb a.m meanings) (get_or a.u.now (place a.k a.o a.m) 0) 0)
    (le-ltb a.k most_nodes c.if-k-ge-MOST_NODES.true))

pub returns-then-m-ge-MEANINGS : goal.returns-then-m-ge-MEANINGS
unfolding come_to_lem
returns-then-m-ge-MEANINGS c =
    let a = c.args in
    sym (ap (λ (b : Bool). cond b (get_or a.u.now (place a.k a.o a.m) 0) 0)
    (and-false (ltb a.k most_nodes) (ltb a.m meanings) (le-ltb a.m meanings c.if-m-ge-MEANINGS.true)))

pub returns : goal.returns
returns c =
    let a = c.args in
    c.states_at.ensures ∙ sym (come-to-in a.u.now a.k a.o a.m c.if-k-ge-MOST_NODES.false c.if-m-ge-MEANINGS.false)
