use Rattle.usage.specs.Tables.{node_at_lem}
use Rattle.usage.specs.declared.Node.{Node}
use Prim.Native.Nat.{suc, ◌+◌, ◌-◌}
use mathlib.Core.List.{List, [], ◌∷◌, ◌++◌}
use mathlib.Core.Path.{ap₂, ◌≡◌, ap, ◌∙◌}
use Rattle.sheet_grammar.specs.Nodes.{node_with}
use Rattle.sheet_expression.specs.Code.{listed_nodes, shifted}
use Rattle.sheet_expression.proofs.ListingLaws.{between, between_none, between_more, between-all}
use native.Mathlib.Omega.{arith}
use Rattle.sheet_expression.proofs.numbering.NodeList.join.Goals as goal

pub loop-j-init : goal.loop-j-init
unfolding listed_nodes
loop-j-init c =
    let a = c.args in
    let n = node_with a.kind (a.start + 1) (a.right + 1) in
    record {
      few = omega arith;
      one_more = c.push-out.ensures.count_value;
      nodes = c.push-out.ensures.result_value (omega arith) ∙ between_none a.self.table a.start n
          ∙ ap (between a.self.table a.start n) (let z : 0 ≡ a.start - a.start = omega arith in z);
    }

pub loop-j-preserved : goal.loop-j-preserved
unfolding shifted
loop-j-preserved c =
    let a = c.args in
    let j = c.loop-j.j in
    let i = c.loop-j.invariant in
    let n = node_with a.kind (a.start + 1) (a.right + 1) in
    let e : j ≡ a.start + (j - a.start) = omega arith in
    let f : suc (j - a.start) ≡ j + 1 - a.start = omega arith in
    let y : c.moved.result ≡ shifted a.start (node_at_lem a.self.table (a.start + (j - a.start))) = c.moved.ensures
    ∙ ap (shifted a.start) (c.node.ensures ∙ ap (node_at_lem a.self.table) e) in
    record {
      few = i.few;
      one_more = omega (arith, c.push-out-in-loop-j.ensures.count_value);
      nodes = c.push-out-in-loop-j.ensures.result_value (omega arith)
          ∙ ap₂ (λ (xs : List Node) (x : Node). xs ++ (x ∷ [])) i.nodes y ∙ between_more a.self.table a.start n (j - a.start)
          ∙ ap (between a.self.table a.start n) f;
    }

pub returns : goal.returns
unfolding listed_nodes
returns c =
    let a = c.args in
    let j = c.loop-j.j in
    let i = c.loop-j.invariant in
    let e : j ≡ a.self.count = omega arith in record {
      count = omega arith;
      nodes = λ l. i.nodes ∙ between-all a.self.table a.start (node_with a.kind (a.start + 1) (a.right + 1))
          a.self.count (j - a.start) (omega arith);
    }
