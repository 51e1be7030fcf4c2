use native.Mathlib.Omega.{arith}
use mathlib.Core.Path.{refl}
use Rattle.sheet_writer.proofs.LineLaws.{no_lines, lines-length, one_line, named-lines, names-end}
use Rattle.sheet_writer.proofs.text.write.Goals as goal

pub loop-k-init : goal.loop-k-init
loop-k-init c = (refl, no_lines _ _ _)

pub edge-at-requires : goal.edge-at-requires
edge-at-requires c =
    let t = c.loop-k in
    let p = c.policy_names-at.ensures in
    let room = c.requires.longest_sheet_in_bounds in
    let n = names-end c.args.local c.args.out.now (omega arith) p.value p.out_after in
    let short = t.invariant.1.short in
    let size = t.invariant.0 in
    let few = c.requires.keys_le_most_edges in
    omega (arith, n.0, n.1)

pub loop-k-preserved : goal.loop-k-preserved
loop-k-preserved c =
    let t = c.loop-k in
    let v = c.edge-at.ensures in
    let m = one_line t.invariant.1 (omega arith) v.upper_bound v.value v.out_after in
    (lines-length m, m)

pub returns : goal.returns
returns c =
    let t = c.loop-k in
    let p = c.policy_names-at.ensures in
    let room = c.requires.longest_sheet_in_bounds in
    let h = named-lines c.args.local c.args.out.now c.args.keys.now t.k-index (omega arith) (omega arith) p.value p.out_after
    t.invariant.1 in
    record { value = h.0; out_after = h.1 }
