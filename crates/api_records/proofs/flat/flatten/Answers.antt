use Rattle.std.proofs.Common.{◌+◌, drop, ap, sym, ◌∙◌, arith}
use Rattle.api_records.specs.declared.flat.Flat.{Flat}
use Rattle.api_records.specs.Code.{zeros, flat_of}
use Rattle.api_records.proofs.LoopLaws.{flat-more, flat-end}
use Rattle.api_records.proofs.flat.flatten.Goals as goal

pub loop-i-init : goal.loop-i-init
unfolding zeros
loop-i-init c =
    let es = c.args.edges.now in
    (ap (λ (f : Flat). f.count) c.empty-f.ensures, ap (λ (f : Flat). flat_of f es) c.empty-f.ensures)

pub loop-i-preserved : goal.loop-i-preserved
loop-i-preserved c =
    let t = c.loop-i in
    let es = c.args.edges.now in (
      ap (λ (f : Flat). f.count) c.add.ensures ∙ ap (λ n. n + 1) t.invariant.0,
      ap (λ (f : Flat). flat_of f (drop (t.i + 1) es)) c.add.ensures ∙ sym (flat-more t.f t.i es (omega arith)) ∙ t.invariant.1,
    )

pub returns : goal.returns
returns c =
    let t = c.loop-i in
    let es = c.args.edges.now in
    (omega arith, sym (flat-end t.f t.i es (omega arith)) ∙ t.invariant.1)
