use Prim.Native.Nat.{◌+◌, ◌*◌}
use mathlib.Core.Path.{sym, ◌∙◌}
use native.Mathlib.Omega.{arith}
use Rattle.usage.specs.Limits.{edge_fields}
use Rattle.usage.proofs.Logic.{false-true}
use Rattle.sheet_fields.proofs.EdgeLaws.{tested-one}
use Rattle.sheet_fields.proofs.edges.is_plain.Goals as goal

pub overflow_cast-on : goal.overflow_cast-on
overflow_cast-on c = omega (arith, c.type_inv.edges (edge_fields * c.args.i + 3))

pub returns-then-on-eq3 : goal.returns-then-on-eq3
returns-then-on-eq3 c = λ e. false-true e

pub overflow_cast-edges : goal.overflow_cast-edges
overflow_cast-edges c =
    omega (arith, c.type_inv.edges (edge_fields * c.args.i))

pub overflow_cast-edges-2 : goal.overflow_cast-edges-2
overflow_cast-edges-2 c =
    omega (arith, c.type_inv.edges (edge_fields * c.args.i + 1))

pub overflow_cast-edges-3 : goal.overflow_cast-edges-3
overflow_cast-edges-3 c =
    omega (arith, c.type_inv.edges (edge_fields * c.args.i + 2))

pub overflow_cast-edges-4 : goal.overflow_cast-edges-4
overflow_cast-edges-4 c =
    omega (arith, c.type_inv.edges (edge_fields * c.args.i + 4))

pub overflow_cast-edges-5 : goal.overflow_cast-edges-5
overflow_cast-edges-5 c =
    omega (arith, c.type_inv.edges (edge_fields * c.args.i + 5))

pub returns : goal.returns
returns c = λ e.
    let a = c.args in
    tested-one a.edges.now a.i (sym c.edge_fits.ensures ∙ e, c.if-on-eq3.false)
