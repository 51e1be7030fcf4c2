-- The numbers that are handed back are those that the arrays then hold.
use mathlib.Core.Path.{ap}
use lib.ListN.{get_or}
use Rattle.api_c.specs.Parts.{Parts}
use Rattle.test_stored.proofs.judge_calls.judged.Goals as goal

pub returns : goal.returns
returns c =
    let e = c.wiforekun_judge_parts-code.ensures in
    record { code_value = e.value; count_value = ap (λ (p : Parts). get_or p.numbers 0 0) e.numbers_after; flag_value = ap (λ (p : Parts). get_or p.numbers 1 0) e.numbers_after }
