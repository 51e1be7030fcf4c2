use mathlib.Core.Path.{subst}
use Rattle.desk_positions.specs.Rows.{base}
use Rattle.desk_positions.proofs.TopLaws.{not-deep, empty-grown, closing-grown, past-grown, node-grown, form-within}
use Rattle.outline_nodes.specs.Said.{said_by}
use Rattle.desk_positions.specs.Growth.{Within}
use mathlib.Core.Path.{sym}
use native.Mathlib.Omega.{arith}
use mathlib.Core.Path.{refl}
use Prim.Native.Nat.{ℕ, ◌-◌}
use lib.ListN.{get_or}
use Rattle.desk_positions.proofs.silent.silent.Goals as goal

-- src/lib.rt:323:9
pub returns-then-depth-eq0 : goal.returns-then-depth-eq0
returns-then-depth-eq0 c = record {
  grown = (λ ch ls ok fine is w.
      let a = c.args in
      empty-grown a.nodes.now a.r.cells ch fine is w c.if-depth-eq0.true);
  t_len_unchanged = c.requires.t_len;
}

-- src/lib.rt:326:9
pub returns-then-depth-gt-MOST_PARTS : goal.returns-then-depth-gt-MOST_PARTS
returns-then-depth-gt-MOST_PARTS c = record { grown = (λ ch ls ok fine is w. absurd (not-deep c.args.r.cells ch fine is c.if-depth-gt-MOST_PARTS.true)); t_len_unchanged = c.requires.t_len }

-- src/lib.rt:331:9
pub returns-then-code-ge-MOST_NODES : goal.returns-then-code-ge-MOST_NODES
returns-then-code-ge-MOST_NODES c = record {
  grown = (λ ch ls ok fine is w.
      let a = c.args in
      let row = a.r.cells in
      let d : ℕ = get_or row 0 0 - 1 in
      closing-grown a.nodes.now row ch fine is w d (get_or row (base d) 0) (omega arith) refl c.if-code-ge-MOST_NODES.true);
  t_len_unchanged = c.requires.t_len;
}

pub returns-in_default-clause-grown : goal.returns-in_default-clause-grown
returns-in_default-clause-grown c ch ls ok fine is w =
    let a = c.args in
    let row = a.r.cells in
    let d : ℕ = get_or row 0 0 - 1 in
    past-grown a.nodes.now row ch fine is w d (get_or row (base d) 0) (omega arith) refl c.if-code-ge-MOST_NODES.false c.in_default.ensures

pub returns-clause-grown : goal.returns-clause-grown
returns-clause-grown c ch ls ok fine is w =
    let a = c.args in
    let row = a.r.cells in
    let d : ℕ = get_or row 0 0 - 1 in
    let code : ℕ = get_or row (base d) 0 in
    node-grown a.nodes.now row ch fine is w d code (omega arith) refl c.if-code-ge-MOST_NODES.false (said_by c.in-Some.f) c.in-Some.ensures
    (λ l rest top. c.silent_at.ensures.by_index code l rest ls top w
    (subst Within (sym c.in-Some.ensures) (form-within a.nodes.now ok code)))
