use Prim.Native.Nat.{◌+◌, ◌-◌, ◌<◌}
use mathlib.Core.Path.{◌≡◌}
use Rattle.sheet_grammar.specs.Nodes.{node_with}
use Rattle.sheet_expression.specs.Code.{listed_nodes}
use Rattle.sheet_expression.proofs.ListingLaws.{between}
use Rattle.sheet_expression.proofs.numbering.NodeList.join.Given as goal

abbrev pub invariant-loop-j : goal.invariant-loop-j
invariant-loop-j l = record {
  few : l.count < 64;
  one_more : l.out.count ≡ l.j + 1;
  nodes : listed_nodes l.out ≡ between l.self.table l.start (node_with l.kind (l.start + 1) (l.right + 1)) (l.j - l.start);
}
