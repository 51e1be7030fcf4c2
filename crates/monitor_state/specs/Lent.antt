-- A state whose arrays are lent one by one, and the judgement that is told of it.
use Rattle.std.specs.Prelude.{ℕ, List}
use Rattle.monitor_state.specs.declared.State.{State}
use Rattle.monitor_state.specs.declared.Sizes.{Sizes}
use Rattle.monitor_state.specs.declared.Judgement.{Judgement}
use Rattle.usage.specs.declared.Reason.{Reason}
use Rattle.monitor_state.specs.declared.Told.{Told}

-- the arrays, as they are before a call or after it
pub record Lent : Type 0 where
  pub sets : List ℕ
  pub pairs : List ℕ
  pub possible : List ℕ
  pub numbers : List ℕ
  pub counts : List ℕ
  pub order : List ℕ

abbrev pub lent_of : List ℕ → List ℕ → List ℕ → List ℕ → List ℕ → List ℕ → Lent
lent_of sets pairs possible numbers counts order =
    record { sets = sets; pairs = pairs; possible = possible; numbers = numbers; counts = counts; order = order }

abbrev pub state_of : Lent → Sizes → State
state_of l z = record {
  tracked = record { sets = l.sets; pairs = l.pairs; possible = l.possible };
  created = record { numbers = l.numbers; count = z.count; highest = z.highest };
  unclosed = record { counts = l.counts; order = l.order; depth = z.depth };
  halted = z.halted;
}

-- what is told, with the arrays as they were left
abbrev pub judgement_of : Told Reason → Lent → Judgement
judgement_of t l = record { answer = t.answer; state = state_of l t.sizes }

-- the arrays of a state, and what it has beside them
abbrev pub arrays_of : State → Lent
arrays_of s =
    lent_of s.tracked.sets s.tracked.pairs s.tracked.possible s.created.numbers s.unclosed.counts s.unclosed.order

abbrev pub sizes_of : State → Sizes
sizes_of s = record {
  count = s.created.count;
  highest = s.created.highest;
  depth = s.unclosed.depth;
  halted = s.halted;
}
