use Rattle.automaton.proofs.PairSetLaws.{many-ones}
use Rattle.automaton.proofs.pairs.many.Goals as goal

pub returns : goal.returns
returns c = many-ones c.args.m c.ranges.m.fits
