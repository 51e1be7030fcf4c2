-- What a move of the code stands for.
use Rattle.usage.specs.Past.{Step, event, opening, closing, retiring}
use Rattle.desk_positions.specs.declared.Move.{Move}
use Rattle.desk_positions.specs.declared.Move.TheVariants.{Event, Opening, Closing, Retiring}

abbrev pub step_of : Move → Step
step_of (Event a r) = event a r
step_of (Opening p) = opening p
step_of (Closing p) = closing p
step_of (Retiring r) = retiring r
