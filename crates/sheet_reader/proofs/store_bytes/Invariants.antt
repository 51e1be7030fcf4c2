use Rattle.sheet_reader.proofs.StoreLaws.{Filled}
use lib.ListN.{get_or}
use Rattle.sheet_reader.proofs.store_bytes.Given as goal

abbrev pub invariant-loop-k : goal.invariant-loop-k
invariant-loop-k g l = Filled (λ i. get_or l.buffer (g.at i) 0) l.initial.table l.m l.table l.k
