use mathlib.Core.List.{List}
use mathlib.Core.Bool.{cond}
use lib.Dec.{eqb}
use Rattle.usage.specs.Limits.{policies}
use Rattle.usage.specs.Tables.{edges_of}
use Rattle.monitor_sets.specs.Code.{broken_in}
use Rattle.monitor_pairs.specs.declared.which.Blocks.{Blocks}
use Rattle.monitor_pairs.specs.Blocks.{pairs_of}
use Rattle.monitor.proofs.LentLaws.{cond_same, taken, taken-sets}
use Rattle.monitor.proofs.EventLaws.{none-moved, none-possible}
use mathlib.Core.Path.{sym, ap, subst, ◌∙◌}
use Prim.Native.Nat.{ℕ, ◌≤◌}
use Rattle.monitor.proofs.events.take_event.Goals as goal

pub returns-then-by-ge8 : goal.returns-then-by-ge8
returns-then-by-ge8 c =
    let a = c.args in
    let pre = c.requires in
    let es = edges_of a.by.now.edges.now in
    let e = c.take_event.ensures in
    let bad = c.take_event.result in
    let none : policies ≤ (pairs_of es).first = subst (λ (b : Blocks). 8 ≤ b.first) a.by.now.of_edges c.if-by-ge8.true in
    let possible = sym (none-possible es none a.turn.action a.turn.resource a.turn.at a.turn.n a.sets.now a.pairs.now) in record {
      value = e.value ∙ taken a.turn.n a.turn.at _ _ pre.n_le_instances pre.at_lt_n ∙ ap (λ (l : List ℕ). broken_in a.by.now.looked l a.unclosed.now) possible;
      sets_after = e.sets_after ∙ taken-sets a.turn.n a.turn.at bad _ _ pre.n_le_instances pre.at_lt_n;
      pairs_after = sym (ap (λ (l : List ℕ). cond (eqb bad 0) l a.pairs.now) (none-moved es none a.turn.action a.turn.resource a.turn.at a.turn.n a.pairs.now)
          ∙ cond_same (eqb bad 0) a.pairs.now);
      possible_after = e.possible_after ∙ taken-sets a.turn.n a.turn.at bad _ _ pre.n_le_instances pre.at_lt_n
          ∙ ap (λ (l : List ℕ). cond (eqb bad 0) l a.possible.now) possible;
    }
