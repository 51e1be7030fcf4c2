-- What is done of the records and what is left of them make the table of all of them.
use Rattle.std.proofs.Common.{drop, ◌≡◌}
use Rattle.api_records.specs.Code.{zeros, flat_of}
use Rattle.api_records.proofs.flat.flatten.Given as goal

abbrev pub invariant-loop-i : goal.invariant-loop-i
invariant-loop-i l = (l.f.count ≡ l.i) × (flat_of l.f (drop l.i l.edges) ≡ flat_of zeros l.edges)
