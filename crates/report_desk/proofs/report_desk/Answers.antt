-- `report_desk` meets its contract.
use native.Mathlib.Omega.{arith}
use mathlib.Core.Path.{refl}
use Rattle.report_lines.specs.Lines.{desk_names_line}
use Rattle.report_lines.proofs.RowLaws.{length-desk-names}
use Rattle.report.proofs.OutputLaws.{first-end, first-length}
use Rattle.report_desk.specs.Printed.{sheet_row, no_policies, has_policies}
use Rattle.report_desk.proofs.PrintedLaws.{rows_right, one-row, after-names}
use Rattle.report_desk.proofs.report_desk.Goals as goal

pub returns-then-out-lt-DESK_ROOM : goal.returns-then-out-lt-DESK_ROOM
returns-then-out-lt-DESK_ROOM c = record { value = λ h. (refl, refl); prints_desk = λ h. absurd (let t = c.if-out-lt-DESK_ROOM.true in omega arith) }

pub refused-requires : goal.refused-requires
refused-requires c =
    let a = c.args in
    let w = c.desk_names-at in
    let t = c.if-out-lt-DESK_ROOM.false in
    let l = length-desk-names in
    let e = first-end a.out.now desk_names_line w.result w.new.out w.ensures.value w.ensures.out_after (omega arith) in
    let m = first-length a.out.now desk_names_line w.result w.new.out w.ensures.value w.ensures.out_after (omega arith) in
    record { sheet_bound = omega arith; longest_desk_row_in_bounds = omega arith }

pub returns-then-code-ne0 : goal.returns-then-code-ne0
returns-then-code-ne0 c =
    let w = c.desk_names-at in
    let t = c.if-out-lt-DESK_ROOM.false in
    let k = c.policies-code in
    let r = c.refused in record {
      value = λ h. absurd (omega arith);
      prints_desk = λ h. after-names h w.ensures.value w.ensures.out_after
          (one-row (sheet_row 3 k.result) (no_policies k.ensures c.if-code-ne0.true) r.ensures.code_len_bound r.ensures.value r.ensures.out_after);
    }

pub outline_rows-requires : goal.outline_rows-requires
outline_rows-requires c =
    let a = c.args in
    let w = c.desk_names-at in
    let t = c.if-out-lt-DESK_ROOM.false in
    let l = length-desk-names in
    let e = first-end a.out.now desk_names_line w.result w.new.out w.ensures.value w.ensures.out_after (omega arith) in
    let m = first-length a.out.now desk_names_line w.result w.new.out w.ensures.value w.ensures.out_after (omega arith) in
    omega arith

pub returns : goal.returns
returns c =
    let w = c.desk_names-at in
    let t = c.if-out-lt-DESK_ROOM.false in
    let k = c.policies-code in
    let z = c.if-code-ne0.false in record { value = λ h. absurd (omega arith); prints_desk = λ h. after-names h w.ensures.value w.ensures.out_after (rows_right (λ rows. has_policies (rw z at k.ensures)) c.outline_rows.ensures) }
