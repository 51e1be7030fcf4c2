use Rattle.desk_positions.proofs.CellLaws.{kept-none}
use Rattle.usage.specs.Tables.{nodes_of}
use Rattle.desk_positions.specs.Rows.{base}
use Rattle.desk_positions.specs.Moves.{step_of}
use Rattle.desk_positions.proofs.TopLaws.{not-deep, form-within}
use Rattle.outline_nodes.specs.Said.{said_by}
use mathlib.Core.Path.{subst, sym}
use Rattle.desk_positions.specs.Growth.{Within}
use Rattle.desk_positions.proofs.StepLaws.{empty-strides, closing-strides, past-strides, node-strides}
use native.Mathlib.Omega.{arith}
use mathlib.Core.Path.{refl}
use Prim.Native.Nat.{ℕ, ◌-◌}
use lib.ListN.{get_or}
use Rattle.desk_positions.proofs.strides.stride.Goals as goal

-- src/lib.rt:550:9
pub returns-then-depth-eq0 : goal.returns-then-depth-eq0
returns-then-depth-eq0 c = record {
  grown = λ ch ls ok fine is w.
      let a = c.args in
      let row = a.r.cells in
      let d : ℕ = get_or row 0 0 - 1 in
      let step = step_of a.step in
      empty-strides a.nodes.now row ch fine is step w c.if-depth-eq0.true;
  rows_kept = kept-none _ _;
}

-- src/lib.rt:553:9
pub returns-then-depth-gt-MOST_PARTS : goal.returns-then-depth-gt-MOST_PARTS
returns-then-depth-gt-MOST_PARTS c = record { grown = λ ch ls ok fine is w. absurd (not-deep c.args.r.cells ch fine is c.if-depth-gt-MOST_PARTS.true); rows_kept = kept-none _ _ }

-- src/lib.rt:558:9
pub returns-then-code-ge-MOST_NODES : goal.returns-then-code-ge-MOST_NODES
returns-then-code-ge-MOST_NODES c = record {
  grown = λ ch ls ok fine is w.
      let a = c.args in
      let row = a.r.cells in
      let d : ℕ = get_or row 0 0 - 1 in
      let step = step_of a.step in
      closing-strides a.nodes.now row ch fine is step w d (get_or row (base d) 0) (omega arith) refl c.if-code-ge-MOST_NODES.true
      (λ p rest e g dep num. c.stride_closing.ensures.grown (nodes_of a.nodes.now) p rest ls e g dep num w);
  rows_kept = c.stride_closing.ensures.rows_kept;
}

-- src/lib.rt:561:9
pub returns-in_default-clause-grown : goal.returns-in_default-clause-grown
returns-in_default-clause-grown c ch ls ok fine is w =
    let a = c.args in
    let row = a.r.cells in
    let d : ℕ = get_or row 0 0 - 1 in
    past-strides a.nodes.now row ch fine is (step_of a.step) w d (get_or row (base d) 0) (omega arith) refl c.if-code-ge-MOST_NODES.false c.in_default.ensures

pub returns-clause-grown : goal.returns-clause-grown
returns-clause-grown c ch ls ok fine is w =
    let a = c.args in
    let row = a.r.cells in
    let d : ℕ = get_or row 0 0 - 1 in
    let code : ℕ = get_or row (base d) 0 in
    node-strides a.nodes.now row ch fine is (step_of a.step) w d code (omega arith) refl c.if-code-ge-MOST_NODES.false
    (said_by c.in-Some.f) c.in-Some.ensures
    (λ l rest top. c.stride_at.ensures.by_index code l rest ls top w
    (subst Within (sym c.in-Some.ensures) (form-within a.nodes.now ok code)))
