-- The refusal of a table of nodes, as document 01's line and number.
use Rattle.std.specs.Prelude.{Result as Returned, Ok, Err}
use Rattle.std.proofs.Math.Option.{Option, none, some}
use Rattle.usage.specs.Answers.{Refusal}
use Rattle.usage.specs.declared.SheetRefusal.{SheetRefusal}
use Rattle.usage.specs.Reasons.{refusal_of}

abbrev pub fault : Returned (Unit {0}) SheetRefusal → Option Refusal
fault (Ok u) = none
fault (Err r) = some (refusal_of r)
