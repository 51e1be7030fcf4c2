use Rattle.std.proofs.lemmas.Result.{err_from_is_err_and}
use mathlib.Core.List.{[]}
use borrow.Author.Tests.{not-true, not-false}
use Rattle.sheet_lines.specs.Sheets.{sheet_of}
use Rattle.sheet_lines.specs.Code.{held_onto}
use Rattle.sheet_lines.proofs.AcceptLaws.{begins-length}
use Rattle.sheet_lines.proofs.SheetLaws.{too_long, other-names, after-names, values-stored, leaves}
use mathlib.Core.Path.{sym, ap, ◌∙◌}
use Rattle.sheet_lines.proofs.sheet.Goals as goal

pub returns-then-text-gt-LONGEST_SHEET : goal.returns-then-text-gt-LONGEST_SHEET
returns-then-text-gt-LONGEST_SHEET c =
    let h = too_long (sheet_of c.args.kind) c.args.text.now c.args.buffer.now
    c.if-text-gt-LONGEST_SHEET.true in record { result_value = h.answers; buffer_after = h.buffer }

pub returns-then-not-named : goal.returns-then-not-named
returns-then-not-named c =
    let h = other-names (sheet_of c.args.kind) c.args.text.now
    c.if-text-gt-LONGEST_SHEET.false c.args.buffer.now
    (sym c.named.ensures ∙ not-true c.named.result c.if-not-named.true-raw) in record { result_value = h.answers; buffer_after = h.buffer }

pub lines-requires : goal.lines-requires
lines-requires c =
    let a = c.args in
    rw c.names_length.ensures
    (begins-length (sheet_of a.kind).names a.text.now
    (sym c.named.ensures ∙ not-false c.named.result c.if-not-named.false-raw))

pub returns-in_err-count : goal.returns-in_err-count
returns-in_err-count c =
    let a = c.args in
    let s = sheet_of a.kind in
    let e = after-names s a.text.now c.if-text-gt-LONGEST_SHEET.false
    (sym c.named.ensures ∙ not-false c.named.result c.if-not-named.false-raw) in
    let g = rw c.names_length.ensures at c.in_err-count.ensures.buffer_after ∙ sym (ap (held_onto 0 []) e) in
    let h = leaves s a.text.now a.buffer.now a.buffer.now _ g in
    let p = err_from_is_err_and c.from_residual.result c.from_residual.ensures.1 in
    record { result_value = rw (p.1, p.2) h.answers; buffer_after = h.buffer }

pub returns : goal.returns
returns c =
    let a = c.args in
    let s = sheet_of a.kind in
    let e = after-names s a.text.now c.if-text-gt-LONGEST_SHEET.false
    (sym c.named.ensures ∙ not-false c.named.result c.if-not-named.false-raw) in
    let g = rw c.names_length.ensures at c.in_ok-count.ensures.buffer_after ∙ sym (ap (held_onto 0 []) e) in
    let h = values-stored s a.text.now a.buffer.now _ _ g c.in_ok-count.ensures.buffer_unchanged in
    record { result_value = h.answers; buffer_after = h.buffer }
