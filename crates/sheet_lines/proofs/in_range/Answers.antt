use Rattle.sheet_lines.specs.Sheets.{sheet_of}
use Rattle.sheet_lines.proofs.LinesLaws.{fits-in-range}
use native.Mathlib.Omega.{arith}
use mathlib.Core.Path.{◌≡◌, ◌∙◌}
use Prim.Native.Nat.{◌+◌, ◌-◌}
use lib.ListN.{length, take, drop, length-take, length-drop}
use Rattle.sheet_lines.proofs.in_range.Goals as goal

pub returns : goal.returns
returns c =
    let a = c.args in
    let f = c.fields.ensures in
    let n = (sheet_of a.kind).fields in
    let vs = take n (drop a.base a.buffer.now) in
    let pre = c.requires in
    let long : length vs ≡ n = omega (
      arith,
      length-take n (drop a.base a.buffer.now),
      length-drop a.base a.buffer.now,
      pre,
      c.told-buffer,
    ) in
    let size : a.base + n - a.base ≡ n = omega arith in
    rw (f, size) at c.line_fits.ensures ∙ fits-in-range a.kind vs long
