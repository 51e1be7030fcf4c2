use Prim.Native.Nat.{◌*◌, ◌/◌}
use mathlib.Core.List.{[]}
use Rattle.usage.specs.Limits.{node_fields}
use Rattle.usage.specs.Tables.{node_at_lem}
use Rattle.usage.specs.Valid.{times, children_of}
use Rattle.usage.specs.Outline.{form_of}
use Rattle.sheet_rules.specs.Code.{child_if}
use Rattle.sheet_rules.proofs.NodeLaws.{times-two, times-begin, times_more, times-end}
use Rattle.sheet_rules.proofs.CountLaws.{zeros-at, times-few}
use native.Mathlib.Omega.{arith}
use mathlib.Core.Path.{◌≡◌, ap, ◌∙◌}
use Prim.Native.Nat.{◌+◌}
use lib.ListN.{length, get_or}
use Rattle.sheet_rules.proofs.tree.children_counted.Goals as goal

pub loop-j-init : goal.loop-j-init
loop-j-init c =
    λ k h. let z = zeros-at 64 k in let b = times-begin c.args.table.now k in (omega arith, omega (arith, z, b))

pub counted-counts-requires : goal.counted-counts-requires
counted-counts-requires c = λ k h.
    let t = c.loop-j in
    let f = c.child_fields-f.result in
    let z = (t.invariant k h).0 in
    let q = c.loop-j-test.true in
    let p = c.requires in
    let e = c.counted-once.ensures k h in
    let w = times-few k f.a (get_or c.args.table.now (3 * t.j + 1) 0) in
    omega (arith, e, w, z, q, p)

pub loop-j-preserved : goal.loop-j-preserved
loop-j-preserved c =
    let g = c.args.table.now in
    let t = c.loop-j in
    let f = c.child_fields-f in
    let n = length g / node_fields in
    let h = c.loop-j-test.true in
    λ k l.
    let x = get_or g (3 * t.j + 1) 0 in
    let y = get_or g (3 * t.j + 2) 0 in
    let i = t.invariant k l in
    let e1 = c.counted-once.ensures k l in
    let e2 = c.counted-counts.ensures k l in
    let w1 = times-few k f.result.a x in
    let w2 = times-few k f.result.b y in
    let m = times_more g k n t.j h in
    let s : times k (children_of (form_of (node_at_lem g t.j))) ≡ times k (child_if f.result.a x []) + times k (child_if f.result.b y []) =
    ap (times k) (f.ensures x y) ∙ times-two k f.result.a f.result.b x y in
    (omega (arith, i.0, e1, e2, w1, w2), omega (arith, i.1, e1, e2, m, s))

pub returns : goal.returns
returns c = λ k l.
    let g = c.args.table.now in
    let t = c.loop-j in
    let m = times-end g k (length g / node_fields) t.j c.loop-j-test.false in
    let i = (t.invariant k l).1 in
    omega (arith, m, i)
