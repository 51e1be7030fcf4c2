use mathlib.Core.Path.{sym}
use native.Mathlib.Omega.{arith}
use lib.Pow.{pow_mono}
use Rattle.checker_tables.proofs.WorkLaws.{has-high}
use Rattle.checker_lengths.proofs.OfferLaws.{has-bit}
use Rattle.checker_lengths.proofs.offers.has.Goals as goal

pub returns-then-j-ge64 : goal.returns-then-j-ge64
returns-then-j-ge64 c =
    let f = c.ranges.v.fits in sym (has-high c.args.v c.args.j (omega (arith, pow_mono c.if-j-ge64.true)))

pub returns : goal.returns
returns c = has-bit c.args.v c.args.j
