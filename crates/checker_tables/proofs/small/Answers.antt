use mathlib.Core.Path.{ap, ap₂}
use mathlib.Core.Bool.{◌&&◌}
use lib.Dec.{ltb}
use Rattle.checker_account.specs.Single.{no_name}
use Rattle.checker_tables.specs.Search.{small}
use Rattle.checker_tables.proofs.OtherLaws.{no_number}
use Rattle.checker_tables.proofs.small.Goals as goal

pub returns-in-OnStatic : goal.returns-in-OnStatic
unfolding small
returns-in-OnStatic c = rw c.in-OnStatic.is

pub returns-in-OnName : goal.returns-in-OnName
unfolding small
returns-in-OnName c = rw c.in-OnName.is

pub returns-in-Sequence : goal.returns-in-Sequence
unfolding small
returns-in-Sequence c = rw c.in-Sequence.is (ap₂ ◌&&◌ c.in_room.ensures c.in_room-in-Sequence.ensures)

pub returns-in-Choice : goal.returns-in-Choice
unfolding small
returns-in-Choice c = rw c.in-Choice.is (ap₂ ◌&&◌ c.in_room-in-Choice.ensures c.in_room-in-Choice-2.ensures)

pub returns-in-Loop : goal.returns-in-Loop
unfolding small
returns-in-Loop c = rw c.in-Loop.is c.in_room-in-Loop.ensures

pub returns-in-Back : goal.returns-in-Back
unfolding small
returns-in-Back c = rw c.in-Back.is c.in_room-in-Back.ensures

pub returns-in-Fresh : goal.returns-in-Fresh
unfolding small
returns-in-Fresh c = rw c.in-Fresh.is (ap (◌&&◌ (ltb c.in-Fresh.name no_name)) c.in_room-in-Fresh.ensures)

pub returns-in-Sandbox : goal.returns-in-Sandbox
unfolding small
returns-in-Sandbox c = rw c.in-Sandbox.is c.in_room-in-Sandbox.ensures

pub returns-in_default : goal.returns-in_default
returns-in_default c = no_number c.args.f c.in_default.not-OnStatic c.in_default.not-OnName c.in_default.not-Sequence c.in_default.not-Choice c.in_default.not-Loop c.in_default.not-Back c.in_default.not-Fresh c.in_default.not-Sandbox
