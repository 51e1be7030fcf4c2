use mathlib.Core.Path.{refl}
use borrow.Author.Tests.{eq-eqb, ne_eqb}
use Rattle.monitor_pairs.specs.Which.{blocks_of}
use Rattle.monitor_pairs.proofs.which.lowest_two.Goals as goal

pub returns-then-m-eq0 : goal.returns-then-m-eq0
unfolding blocks_of
returns-then-m-eq0 c = rw (eq-eqb _ 0 c.if-m-eq0.true) refl

pub returns : goal.returns
unfolding blocks_of
returns c = rw (ne_eqb _ 0 c.if-m-eq0.false) refl
