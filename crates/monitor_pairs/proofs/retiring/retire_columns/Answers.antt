use Prim.Native.Nat.{◌*◌}
use mathlib.Core.Path.{ap, ◌∙◌}
use native.Mathlib.Omega.{arith}
use Rattle.monitor_sets.specs.Instances.{instances}
use Rattle.monitor_pairs.specs.Code.{line_retired}
use Rattle.monitor_pairs.proofs.RetireLaws.{columns-none, columns-more}
use Rattle.monitor_pairs.proofs.retiring.retire_columns.Goals as goal

pub loop-i-init : goal.loop-i-init
loop-i-init c = (c.told-sets, columns-none c.args.at c.args.sets.now (omega arith) c.told-sets)

pub loop-i-preserved : goal.loop-i-preserved
loop-i-preserved c =
    let a = c.args in
    let t = c.loop-i in
    let e = c.retire_line.ensures in (
      c.retire_line.array_long,
      e ∙ ap (line_retired (t.i * instances) a.at) t.invariant.1
          ∙ columns-more a.at a.sets.now (omega arith) t.i (omega arith),
    )
