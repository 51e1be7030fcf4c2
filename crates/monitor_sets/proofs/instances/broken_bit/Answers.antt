use mathlib.Core.Path.{sym, ap, ◌∙◌}
use native.Mathlib.Omega.{arith}
use lib.Bits.{bit_and}
use Rattle.automaton.proofs.MaskLaws.{bit_shifted}
use Rattle.monitor_sets.proofs.SetLaws.{pos, bit-closed, bit-respected, bit-broken}
use Rattle.monitor_sets.proofs.instances.broken_bit.Goals as goal

pub returns-then-openings-eq0 : goal.returns-then-openings-eq0
returns-then-openings-eq0 c =
    let a = c.args in
    sym (bit-closed a.looked a.possible a.openings a.p c.if-openings-eq0.true)

pub returns-then-possible-lt64 : goal.returns-then-possible-lt64
returns-then-possible-lt64 c =
    let a = c.args in
    sym (bit-respected a.looked a.possible a.openings a.p (pos _ c.if-openings-eq0.false) c.if-possible-lt64.true)

pub returns : goal.returns
returns c =
    let a = c.args in
    ap (bit_and a.looked) (bit_shifted a.p (omega arith))
    ∙ bit-broken a.looked a.possible a.openings a.p (pos _ c.if-openings-eq0.false) c.if-possible-lt64.false
