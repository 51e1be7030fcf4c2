use Prim.Native.Nat.{◌+◌, ◌*◌}
use native.Mathlib.Omega.{arith}
use Rattle.usage.specs.Limits.{edge_fields}
use Rattle.sheet_fields.proofs.edges.with_edge.Goals as goal

pub overflow_cast-policy : goal.overflow_cast-policy
overflow_cast-policy c = omega (arith, c.type_inv.edges (edge_fields * c.args.i))

pub overflow_cast-from : goal.overflow_cast-from
overflow_cast-from c = omega (arith, c.type_inv.edges (edge_fields * c.args.i + 1))

pub overflow_cast-action : goal.overflow_cast-action
overflow_cast-action c = omega (arith, c.type_inv.edges (edge_fields * c.args.i + 2))

pub overflow_cast-on : goal.overflow_cast-on
overflow_cast-on c = omega (arith, c.type_inv.edges (edge_fields * c.args.i + 3))

pub overflow_cast-who : goal.overflow_cast-who
overflow_cast-who c = omega (arith, c.type_inv.edges (edge_fields * c.args.i + 4))

pub overflow_cast-to : goal.overflow_cast-to
overflow_cast-to c =
    omega (arith, c.type_inv.edges (edge_fields * c.args.i + 5))
