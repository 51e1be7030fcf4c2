use Prim.Native.Nat.{◌≤◌}
use Rattle.checker.specs.Summary.{mark_bits}
use Rattle.report.specs.Summary.{bit_text}
use Rattle.report.proofs.SummaryLaws.{Writing}
use Rattle.report.proofs.summary.policy_rows.Given as goal

abbrev pub invariant-loop-i : goal.invariant-loop-i
invariant-loop-i l = (l.i ≤ mark_bits) × Writing (bit_text l.n l.p) mark_bits l.initial.out l.at l.out l.next l.i
