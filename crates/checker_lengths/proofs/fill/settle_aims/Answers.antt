use mathlib.Core.Path.{subst}
use mathlib.Core.Bool.{true}
use Rattle.checker_lengths.specs.declared.Entry.{Entry}
use Rattle.checker_lengths.specs.Entries.{in_table}
use Rattle.checker_lengths.proofs.EntryLaws.{toward-in}
use mathlib.Core.Path.{◌≡◌, sym}
use Rattle.checker_lengths.proofs.fill.settle_aims.Goals as goal

pub settle-changed-requires : goal.settle-changed-requires
settle-changed-requires c =
    subst (λ (e : Entry). in_table e ≡ true) (sym c.toward.ensures) (toward-in c.args.s c.loop-i.i c.requires c.loop-i-test.true)
