use native.Mathlib.Omega.{arith}
use mathlib.Core.Path.{◌≡◌, ap, ◌∙◌}
use lib.ListN.{length, length-take}
use Rattle.std.proofs.lemmas.Result.{err_from_is_err_and}
use Rattle.usage.specs.Limits.{edge_places}
use Rattle.usage.specs.Reasons.{number_of}
use Rattle.sheet_reader.proofs.AnswerLaws.{policies-held, policies-choice, policies-refused}
use Rattle.sheet_writer.specs.Writer.{has_length}
use Rattle.sheet_writer.proofs.WriterLaws.{no_room, refused-writes, accepted-writes}
use Rattle.sheet_writer.proofs.KeyLaws.{held-sheet}
use borrow.Author.Rules.{rules}
use Rattle.sheet_writer.proofs.write_policies.Goals as goal

pub returns-then-out-lt-LONGEST_SHEET : goal.returns-then-out-lt-LONGEST_SHEET
returns-then-out-lt-LONGEST_SHEET c =
    let w = no_room c.args.text.now c.args.out.now c.if-out-lt-LONGEST_SHEET.true in
    record { result_value = w.answers; out_after = w.sheet-is }

pub returns-in_err-sheet : goal.returns-in_err-sheet
returns-in_err-sheet c =
    let a = c.args in
    let f = c.in_err-sheet.field-0.0 in
    let e = policies-refused a.text.now f.line (number_of f.reason) c.in_err-sheet.ensures.result_value in
    let w = refused-writes a.text.now a.out.now c.if-out-lt-LONGEST_SHEET.false _ e in
    let p = err_from_is_err_and c.from_residual.result c.from_residual.ensures.1 in
    rw (p.1, p.2) (record { result_value = w.answers; out_after = w.sheet-is })

pub sort-n-requires : goal.sort-n-requires
sort-n-requires c =
    let r = c.in_ok-sheet in
    let h = policies-held c.args.text.now c.read_policies.new.table r.sheet.edges r.sheet.local r.ensures.result_value r.ensures.table_after in
    h.few

pub slice_bounds-sorted-end : goal.slice_bounds-sorted-end
slice_bounds-sorted-end c =
    let r = c.in_ok-sheet in
    let h = policies-held c.args.text.now c.read_policies.new.table r.sheet.edges r.sheet.local r.ensures.result_value r.ensures.table_after in
    omega (arith, h.few, c.sort-n.ensures.upper_bound, c.sort-n.array_long)

pub slice_bounds-write-end : goal.slice_bounds-write-end
slice_bounds-write-end c =
    let r = c.in_ok-sheet in
    let h = policies-held c.args.text.now c.read_policies.new.table r.sheet.edges r.sheet.local r.ensures.result_value r.ensures.table_after in
    omega (arith, h.few, c.sort-n.ensures.upper_bound, c.sort-n.array_long, length-take c.sort-n.result c.sort-n.new.keys)

pub write-requires : goal.write-requires
write-requires c =
    let r = c.in_ok-sheet in
    let s = c.sort-n.ensures in
    let h = policies-held c.args.text.now c.read_policies.new.table r.sheet.edges r.sheet.local r.ensures.result_value r.ensures.table_after in
    record {
      keys_le_most_edges = omega (arith, h.few, s.upper_bound, length-take c.sort-n.result c.sort-n.new.keys);
      longest_sheet_in_bounds = c.if-out-lt-LONGEST_SHEET.false;
    }

pub returns : goal.returns
returns c =
    let a = c.args in
    let r = c.in_ok-sheet in
    let t = c.write.ensures in
    let told = r.ensures.result_value in
    let h = policies-held a.text.now c.read_policies.new.table r.sheet.edges r.sheet.local told r.ensures.table_after in
    let choice = policies-choice a.text.now r.sheet.edges r.sheet.local told in
    let size : length c.read_policies.new.table ≡ edge_places = search rules in
    let e = held-sheet a.text.now c.read_policies.new.table r.sheet.edges r.sheet.local _ h size choice c.sort-n.ensures.keys_after in
    let w = accepted-writes a.text.now a.out.now c.if-out-lt-LONGEST_SHEET.false h.rows _ h.result e in
    record { result_value = ap has_length t.value ∙ w.answers; out_after = t.out_after ∙ w.sheet-is }
