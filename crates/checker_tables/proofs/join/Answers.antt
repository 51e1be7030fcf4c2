use mathlib.Core.Path.{refl, sym}
use Rattle.checker_account.specs.Tables.{joined_at}
use Rattle.checker_account.proofs.GrowsLaws.{grown-joined}
use Rattle.checker_account.proofs.SettleLaws.{joined-wide}
use Rattle.checker_tables.proofs.join.Goals as goal

pub returns : goal.returns
unfolding joined_at
returns c =
    let a = c.args in
    let t = a.t.now in
    record { t_after = refl; value = sym (grown-joined t a.i a.v c.requires); wide = joined-wide t a.i a.v c.ranges.v.fits }
