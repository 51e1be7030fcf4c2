use Rattle.sheet_lines.specs.Sheet.{sheet}
use Rattle.sheet_lines.specs.Sheets.{sheet_of}
use Rattle.sheet_lines.proofs.SheetLaws.{refused-fills}
use Rattle.sheet_reader.specs.Readers.{roomy}
use Rattle.sheet_reader.specs.Code.{needed}
use Rattle.sheet_reader.proofs.ReaderLaws.{too_small, has_room}
use Rattle.sheet_reader.proofs.read.Goals as goal

pub returns-then-places-largest : goal.returns-then-places-largest
returns-then-places-largest c =
    let a = c.args in
    let r = sheet (sheet_of a.kind) a.text.now in
    let h = refused-fills (roomy a.places (needed a.kind) r) 0 40 a.buffer.now
    (too_small a.places (needed a.kind) r (rw c.largest.ensures at c.if-places-largest.true)) in
    record { result_value = h.answers; buffer_after = h.buffer }

pub returns : goal.returns
returns c =
    let a = c.args in
    let e = has_room a.places (needed a.kind) (sheet (sheet_of a.kind) a.text.now)
    (rw c.largest.ensures at c.if-places-largest.false) in
    rw e c.sheet.ensures
