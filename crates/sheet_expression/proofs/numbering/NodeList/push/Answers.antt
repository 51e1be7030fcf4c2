use Rattle.sheet_expression.proofs.ListingLaws.{one_more}
use Rattle.sheet_expression.specs.Code.{listed_nodes}
use mathlib.Core.Path.{◌≡◌}
use lib.ListN.{length}
use borrow.Author.Rules.{rules}
use Rattle.sheet_expression.proofs.numbering.NodeList.push.Goals as goal

pub returns-clause-result_value : goal.returns-clause-result_value
unfolding listed_nodes
returns-clause-result_value c =
    let n : length c.args.self.table ≡ 192 = search rules in
    λ l. one_more c.args.self.table c.args.self.count c.args.n.kind c.args.n.a c.args.n.b l n
