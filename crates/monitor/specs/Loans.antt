-- What is lent to a step, as the judge's definition has it.
use Rattle.std.specs.Prelude.{◌≡◌}
use Rattle.usage.specs.Past.{Step}
use Rattle.usage.specs.Tables.{edges_of}
use Rattle.monitor_state.specs.declared.State.{State}
use Rattle.monitor_state.specs.declared.Judgement.{Judgement}
use Rattle.monitor_state.specs.Code.{Lent, lent_of, stepped}
use Rattle.monitor.specs.declared.lent.Lent.{Lent as Loans}
use Rattle.monitor.specs.declared.lent.Rules.{Rules}

-- the arrays
abbrev pub held : Loans → Lent
held l = lent_of l.sets.now l.pairs.now l.possible.now l.created.now l.unclosed.now l.order.now

-- each array is lent as before
abbrev pub SameLoans : Loans → Loans → Type 0
SameLoans a b =
    (b.sets.ghost_name ≡ a.sets.ghost_name) × (b.pairs.ghost_name ≡ a.pairs.ghost_name) × (b.possible.ghost_name ≡ a.possible.ghost_name)
    × (b.created.ghost_name ≡ a.created.ghost_name) × (b.unclosed.ghost_name ≡ a.unclosed.ghost_name) × (b.order.ghost_name ≡ a.order.ghost_name)

-- the judgement of a step that was read
abbrev pub stepped_by : Rules → State → Step → Judgement
stepped_by by s step = stepped by.looked by.local (edges_of by.edges.now) s step
