use Prim.Native.Nat.{◌+◌, ◌*◌}
use Rattle.checker_trace.proofs.write.+writing.Given as goal

-- one part leads to parts of fewer steps, by way of the function for its rule
abbrev pub decreases-write : goal.decreases-write
decreases-write l = l.p.steps * 2 + 1

abbrev pub decreases-write_fresh : goal.decreases-write_fresh
decreases-write_fresh l = l.p.steps * 2

abbrev pub decreases-write_sandbox : goal.decreases-write_sandbox
decreases-write_sandbox l = l.p.steps * 2

abbrev pub decreases-write_sequence : goal.decreases-write_sequence
decreases-write_sequence l = l.p.steps * 2
