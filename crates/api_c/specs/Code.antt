-- What the functions compute, where Parts.antt has no name for it.
use Rattle.std.specs.Prelude.{Bool, true, false}
use Rattle.usage.specs.declared.Reason.{Reason}
use Rattle.monitor_state.specs.declared.Answer.{Answer}
use Rattle.monitor_state.specs.declared.Answer.TheVariants.{Allowed, Violated, Refused}

abbrev pub is_refusal_lem : Answer Reason → Bool
is_refusal_lem Allowed = false
is_refusal_lem (Violated p) = false
is_refusal_lem (Refused n) = true
