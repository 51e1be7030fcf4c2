use Rattle.checker_trace.specs.Code.{idle_in}
use lib.Dec.{eqb}
use Rattle.checker_lengths.specs.Entries.{entry_of, held}
use Prim.Native.Nat.{◌%◌}
use mathlib.Core.Path.{ap, ◌∙◌}
use Prim.Native.Nat.{ℕ, ◌+◌}
use Rattle.checker_trace.proofs.find.idle.Goals as goal

pub returns : goal.returns
unfolding idle_in
returns c = ap (λ (v : ℕ). eqb v 0) (c.get.ensures
    ∙ ap (λ (i : ℕ). held c.args.t.now 1
    (entry_of c.args.k c.args.e.opened c.args.e.meaning
    c.args.e.state (i + c.args.e.state % 8))) c.low_end.ensures)
