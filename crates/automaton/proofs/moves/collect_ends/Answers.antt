use Prim.Native.Nat.{ℕ, ◌/◌, ◌<◌}
use mathlib.Core.Bool.{true, false}
use mathlib.Core.Path.{◌≡◌, ◌∙◌}
use native.Mathlib.Omega.{arith}
use lib.ListN.{length, get_or}
use Rattle.usage.specs.Limits.{edge_fields}
use Rattle.usage.specs.Tables.{edges_of}
use Rattle.automaton.proofs.RowLaws.{ends_more, ends-wide}
use borrow.Author.Rules.{rules}
use Rattle.automaton.proofs.moves.collect_ends.Goals as goal

pub returns-then-action-gt255 : goal.returns-then-action-gt255
unfolding edges_of
returns-then-action-gt255 c =
    let a = c.args in
    let t = a.edges.now in
    let wide : (k : ℕ) → get_or t k 0 < a.action = λ k. omega (arith, c.type_inv.edges k, c.if-action-gt255.true) in record { own_after = c.requires.own_value ∙ ends-wide t a.action a.seen.resource true a.seen.second (length t / edge_fields) wide; other_after = c.requires.other_value ∙ ends-wide t a.action a.seen.resource false a.seen.second (length t / edge_fields) wide }

pub loop-i-preserved : goal.loop-i-preserved
loop-i-preserved c =
    let a = c.args in
    let t = a.edges.now in
    let u = c.loop-i in (
      search rules,
      (
        c.follow_edge.ensures.own_after ∙ ends_more t a.action a.seen.resource true a.seen.second u.i _ u.invariant.1.0,
        c.follow_edge.ensures.other_after ∙ ends_more t a.action a.seen.resource false a.seen.second u.i _ u.invariant.1.1,
      ),
    )

pub returns : goal.returns
unfolding edges_of
returns c =
    let e : c.loop-i.i ≡ length c.args.edges.now / edge_fields =
    omega arith in
    record { own_after = rw (← e) c.loop-i.invariant.1.0; other_after = rw (← e) c.loop-i.invariant.1.1 }
