use Prim.Native.Nat.{ℕ, ◌≤◌}
use mathlib.Core.List.{List}
use lib.ListN.{get_or}
use Rattle.usage.specs.Limits.{policies}
use Rattle.report.specs.Summary.{policy_text}
use Rattle.report.proofs.SummaryLaws.{Writing}
use Rattle.report.proofs.summary.all_rows.Given as goal

-- the lines of policy p
abbrev pub of : List ℕ → ℕ → List ℕ
of m p = policy_text (get_or m p 0) p

abbrev pub invariant-loop-p : goal.invariant-loop-p
invariant-loop-p l = (l.p ≤ policies) × Writing (of l.marks) policies l.initial.out l.at l.out l.next l.p
