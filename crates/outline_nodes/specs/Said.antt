-- A node as it is read.
use Rattle.std.proofs.Math.Option.{Option, none, some}
use Rattle.std.specs.Prelude.{Option as Maybe, Some, None}
use Rattle.usage.specs.Outline.{Form, end, static_event, named_event, sequence, choice, loop, back, fresh, sandbox}
use Rattle.outline_nodes.specs.declared.NodeForm.{NodeForm}
use Rattle.outline_nodes.specs.declared.NodeForm.TheVariants.{End, OnStatic, OnName, Sequence, Choice}
use Rattle.outline_nodes.specs.declared.NodeForm.TheVariants.{Loop, Back, Fresh, Sandbox}

-- what it says: always a form, as an option, which the definitions over nodes take
abbrev pub said_by : NodeForm → Option Form
said_by End = some end
said_by (OnStatic a s) = some (static_event a s)
said_by (OnName a n) = some (named_event a n)
said_by (Sequence a b) = some (sequence a b)
said_by (Choice a b) = some (choice a b)
said_by (Loop a) = some (loop a)
said_by (Back a) = some (back a)
said_by (Fresh n b) = some (fresh n b)
said_by (Sandbox s b) = some (sandbox s b)

-- what is said, if anything is
abbrev pub said_if : Maybe NodeForm → Option Form
said_if None = none
said_if (Some f) = said_by f
