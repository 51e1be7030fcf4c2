use Prim.Native.Nat.{◌≤◌, ◌^◌}
use mathlib.Core.Path.{◌≡◌}
use mathlib.Core.Bool.{cond}
use Rattle.usage.specs.Limits.{policies}
use Rattle.automaton.specs.Mask.{union}
use Rattle.monitor_lean.specs.Lean.{mark_at}
use Rattle.monitor_lean.proofs.marked_at.Given as goal

abbrev pub invariant-loop-p : goal.invariant-loop-p
invariant-loop-p l = (l.p ≤ policies) × (l.s ≡ union l.p (λ q. cond (mark_at l.marks q l.i) (2 ^ q) 0))
