use Rattle.sheet_writer.proofs.LineLaws.{edge-put}
use Rattle.sheet_writer.proofs.text.edge.Goals as goal

pub returns : goal.returns
returns c =
    let v = c.values.ensures in
    let h = edge-put c.args.k c.ranges.k.fits c.args.out.now c.args.at c.requires v.value v.out_after in
    record { value = h.0; out_after = h.1.0; upper_bound = h.1.1 }
