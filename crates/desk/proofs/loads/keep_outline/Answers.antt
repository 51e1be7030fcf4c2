use Rattle.desk.proofs.StateLaws.{edges_lent}
use Rattle.desk.proofs.StepLaws.{head-parts}
use Rattle.desk.proofs.OutlineLoadLaws.{kept-outline}
use mathlib.Core.Path.{refl}
use borrow.Author.Rules.{rules}
use Rattle.desk.proofs.loads.keep_outline.Goals as goal

-- src/loads.rt:251:28
pub slice_bounds-check-end : goal.slice_bounds-check-end
slice_bounds-check-end c =
    let k = (head-parts c.args.h c.requires.head_is_ok).edges in
    search rules

-- src/loads.rt:253:31
pub slice_bounds-summary-end : goal.slice_bounds-summary-end
slice_bounds-summary-end c =
    let k = (head-parts c.args.h c.requires.head_is_ok).edges in
    search rules

-- src/loads.rt:240:1
pub returns : goal.returns
returns c =
    let a = c.args in
    let p = c.requires in
    kept-outline a.b.now a.h a.nodes.now _ _ _ _ _ (edges_lent a.b.now a.h p.desk_bytes_in_bounds (head-parts a.h p.head_is_ok).edges) p.edges_valid
    p.nodes_valid c.check-o.ensures _ _ refl c.summary.ensures c.outcome_code.ensures c.store_outline.ensures.encodes
    c.store_outline.ensures.within
