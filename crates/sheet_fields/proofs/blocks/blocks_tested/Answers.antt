use Prim.Native.Nat.{ℕ, ◌+◌, ◌*◌}
use mathlib.Core.Path.{sym, ap, ◌∙◌}
use native.Mathlib.Omega.{arith}
use Rattle.std.specs.Prelude.{Some}
use Rattle.sheet_fields.specs.Code.{repeated, block_edges}
use Rattle.sheet_fields.proofs.EdgeLaws.{tested-none, tested-later}
use Rattle.sheet_fields.proofs.BlockLaws.{block-plain}
use Rattle.sheet_fields.proofs.blocks.blocks_tested.Goals as goal
use Rattle.sheet_fields.proofs.blocks.blocks_tested.Goals.{else-block_faults-ne0, then-block_faults-ne0+in_ok-pairs}

pub loop-i-init : goal.loop-i-init
loop-i-init c = tested-none c.args.edges.now

pub returns-in_err-pairs : goal.returns-in_err-pairs
returns-in_err-pairs c =
    let a = c.args in
    c.from_residual.ensures
    ∙ sym (tested-later a.edges.now (block_edges * (c.loop-i.i + 1)) (block_edges * a.n) (omega arith) (sym c.in_err-pairs.ensures))

pub loop-i-preserved : goal.loop-i-preserved
unfolding repeated
loop-i-preserved c =
    let a = c.args in
    let t = c.loop-i in
    elim c.if-block_faults-ne0.branch [
      | then-block_faults-ne0+in_ok-pairs w ↦ ap (λ (m : ℕ). Some m) w.pairs-is ∙ w.in_ok-pairs.ensures
      | else-block_faults-ne0 w ↦
          ap (λ (m : ℕ). Some m) w.pairs-is ∙ t.invariant
          ∙ block-plain a.edges.now t.i (sym c.block_faults.ensures ∙ w.if-block_faults-ne0.false)
    ]
