use Prim.Native.Nat.{ℕ}
use mathlib.Core.Path.{ap, ◌∙◌}
use lib.Dec.{eqb}
use Rattle.checker_lengths.specs.Entries.{held}
use Rattle.checker_trace.specs.Code.{idle_after_lem}
use Rattle.checker_trace.proofs.find.idle_after.Goals as goal

pub returns : goal.returns
unfolding idle_after_lem
returns c = ap (λ (v : ℕ). eqb v 0) (c.get.ensures ∙ ap (held c.args.t.now 1) c.second.ensures)
