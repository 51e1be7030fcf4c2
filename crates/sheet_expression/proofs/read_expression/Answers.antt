use Prim.Native.Nat.{ℕ, ◌*◌}
use mathlib.Core.List.{List, ◌++◌}
use lib.ListN.{length, drop}
use Rattle.usage.specs.Limits.{node_fields, node_places}
use Rattle.usage.specs.Reasons.{number_of}
use Rattle.sheet_reader.proofs.ReaderLaws.{refused-reads}
use Rattle.sheet_expression.specs.Expression.{expression_into}
use Rattle.sheet_expression.proofs.ReadLaws.{into-small, into-long, with-room, into-stored}
use mathlib.Core.Path.{◌≡◌, ap, ◌∙◌}
use borrow.Author.Rules.{rules}
use Rattle.sheet_expression.proofs.read_expression.Goals as goal

pub returns-then-table-lt-NODE_TABLE : goal.returns-then-table-lt-NODE_TABLE
returns-then-table-lt-NODE_TABLE c =
    let a = c.args in
    let p = length a.table.now in
    let h = refused-reads (expression_into p a.text.now) a.table.now 0 40 (into-small p a.text.now c.if-table-lt-NODE_TABLE.true) in
    record { result_value = h.answers; table_after = h.table }

pub returns-then-text-gt-LONGEST_SHEET : goal.returns-then-text-gt-LONGEST_SHEET
returns-then-text-gt-LONGEST_SHEET c =
    let a = c.args in
    let p = length a.table.now in
    let e = into-long p a.text.now c.if-table-lt-NODE_TABLE.false c.if-text-gt-LONGEST_SHEET.true in
    let h = refused-reads (expression_into p a.text.now) a.table.now 0 5 e in
    record { result_value = h.answers; table_after = h.table }

pub returns-in-Err : goal.returns-in-Err
returns-in-Err c =
    let a = c.args in
    let p = length a.table.now in
    let e = with-room p a.text.now c.if-table-lt-NODE_TABLE.false ∙ c.in-Err.ensures in
    let h = refused-reads (expression_into p a.text.now) a.table.now 1 (number_of c.in-Err.reason) e in
    record { result_value = h.answers; table_after = h.table }

pub returns-in-Ok : goal.returns-in-Ok
returns-in-Ok c =
    let a = c.args in
    let n = c.in-Ok.nodes in
    let long : length n.table ≡ node_places = search rules in
    let y = c.in-Ok.ensures in
    let h = into-stored (length a.table.now) a.text.now c.if-table-lt-NODE_TABLE.false n y.0 long y.1 a.table.now in
    record {
      result_value = h.answers;
      table_after = ap (λ (s : List ℕ). s ++ drop (node_fields * n.count) a.table.now) c.copy_from_slice.ensures.after ∙ h.table;
    }
