use Rattle.sheet_bytes.specs.declared.Next.TheVariants.{Ends}
use Rattle.sheet_bytes.specs.Code.{byte_step}
use Rattle.sheet_lines.specs.Answer.{most_values}
use Rattle.sheet_lines.specs.Sheet.{Sheet}
use Rattle.sheet_lines.specs.Sheets.{sheet_of}
use Rattle.sheet_lines.specs.Code.{pairs_over, sheet_after}
use borrow.Author.Tests.{not-true, not-false}
use Rattle.sheet_lines.proofs.LargeLaws.{bounded}
use Rattle.sheet_lines.proofs.LinesLaws as laws
use Rattle.sheet_lines.proofs.LinesLaws.{whole, AtLine, InLine, places, few-lines, some-field}
use Rattle.sheet_lines.proofs.PairsLaws.{sheet-start}
use native.Mathlib.Omega.{arith}
use mathlib.Core.Path.{◌≡◌, refl, sym, ap, subst, ◌∙◌}
use mathlib.Core.Bool.{not}
use Prim.Native.Nat.{◌<◌}
use lib.ListN.{length, get_or, drop}
use borrow.Author.Rules.{rules}
use Rattle.sheet_lines.proofs.lines.Goals as goal
use Rattle.sheet_lines.proofs.lines.Goals.{
  then-text-i,
  else-text-i+then-n-most,
  else-text-i+else-n-most+then-text-i-2,
  else-text-i+else-n-most+else-text-i-2+in-Malformed,
  else-text-i+else-n-most+else-text-i-2+in-Ends+then-not-in_range,
  else-text-i+else-n-most+else-text-i-2+in-Ends+else-not-in_range+then-many,
}
use Rattle.sheet_lines.proofs.lines.Invariants.{whole_text}

pub lines-init : goal.lines-init
lines-init c =
    let a = c.args in
    let pre = c.requires in
    subst (λ (s : Sheet). AtLine (sheet_after a.kind 0) a.text.now (whole s (drop a.from a.text.now)) a.buffer.now
    a.buffer.now a.from 0) (sheet-start a.kind)
    (laws.begin (sheet_after a.kind 0) a.text.now a.from a.buffer.now c.told-buffer pre)

pub overflow_mul-base : goal.overflow_mul-base
overflow_mul-base c =
    let a = c.args in
    let t = c.lines in
    let most = c.most-most.ensures in
    let few = t.invariant.few in
    let r : t.n < (sheet_of a.kind).most = omega (arith, most, few) in
    let h = places a.kind t.n r in
    rw c.fields-fields.ensures (search rules)

pub bytes-init : goal.bytes-init
bytes-init c =
    let a = c.args in
    let t = c.lines in
    let most = c.most-most.ensures in
    let few = t.invariant.few in
    let r : t.n < (sheet_of a.kind).most = omega (arith, most, few) in (
      search rules,
      rw c.nothing-p.ensures
          (laws.enter (sheet_after a.kind t.pairs) a.text.now (whole_text a.kind a.from a.text.now)
          a.buffer.now t.buffer t.i t.n t.invariant
          (some-field a.kind)
          c.if-text-i.false r),
    )

pub overflow_add-at : goal.overflow_add-at
overflow_add-at c =
    let a = c.args in
    let n = c.lines.n in
    let t = c.bytes in
    let inv = t.invariant.1 in
    let first = c.lines.buffer in
    let f = c.fields-fields.ensures in
    let h = places a.kind n inv.room in
    let q = inv.sound.few in
    rw f (search rules)

pub overflow_cast-buffer : goal.overflow_cast-buffer
overflow_cast-buffer c =
    let t = c.bytes in
    let s = t.invariant.1.sound in
    let v = s.fits in
    search rules

pub offset_bounds-buffer-at : goal.offset_bounds-buffer-at
offset_bounds-buffer-at c =
    let a = c.args in
    let n = c.lines.n in
    let t = c.bytes in
    let inv = t.invariant.1 in
    let first = c.lines.buffer in
    let f = c.fields-fields.ensures in
    let h = places a.kind n inv.room in
    let q = inv.sound.few in
    rw f (search rules)

pub bounds-buffer-at : goal.bounds-buffer-at
bounds-buffer-at c =
    let a = c.args in
    let n = c.lines.n in
    let t = c.bytes in
    let inv = t.invariant.1 in
    let first = c.lines.buffer in
    let f = c.fields-fields.ensures in
    let h = places a.kind n inv.room in
    let q = inv.sound.few in
    rw f (omega arith)

pub bytes-preserved : goal.bytes-preserved
bytes-preserved c =
    let a = c.args in
    let u = c.lines in
    let n = u.n in
    let t = c.bytes in
    let inv = t.invariant.1 in
    let first = u.buffer in
    let f = c.fields-fields.ensures in
    let h = places a.kind n inv.room in
    let g : byte_step (sheet_of a.kind).fields t.p (get_or a.text.now t.i 0)
    ≡ _ = rw f at (sym c.step-next.ensures ∙ c.in-Goes.is) in (
      search rules,
      rw f
          (laws.goes (sheet_after a.kind u.pairs) a.text.now (whole_text a.kind a.from a.text.now)
          first t.buffer t.i n t.p inv h
          c.if-text-i-2.false _ g),
    )

pub in_range-requires : goal.in_range-requires
in_range-requires c =
    let a = c.args in
    let n = c.lines.n in
    let t = c.bytes in
    let inv = t.invariant.1 in
    let first = c.lines.buffer in
    let f = c.fields-fields.ensures in
    let h = places a.kind n inv.room in
    let l : length t.buffer ≡ most_values = inv.size in
    rw f h

pub with_line-pairs-requires : goal.with_line-pairs-requires
with_line-pairs-requires c =
    let a = c.args in
    let n = c.lines.n in
    let t = c.bytes in
    let inv = t.invariant.1 in
    let first = c.lines.buffer in
    let f = c.fields-fields.ensures in
    let h = places a.kind n inv.room in
    let l : length t.buffer ≡ most_values = inv.size in
    rw f h

pub lines-preserved : goal.lines-preserved
unfolding pairs_over
lines-preserved c =
    let a = c.args in
    let u = c.lines in
    let n = u.n in
    let t = c.bytes in
    let inv = t.invariant.1 in
    let first = u.buffer in
    let f = c.fields-fields.ensures in
    let h = places a.kind n inv.room in
    let e : byte_step (sheet_of a.kind).fields t.p (get_or a.text.now t.i 0)
    ≡ Ends =
    rw f at (sym c.step-next.ensures ∙ c.in-Ends.is) in
    rw (c.with_line-pairs.ensures, f) (laws.next-line (sheet_after a.kind u.pairs) a.text.now
    (whole_text a.kind a.from a.text.now) first t.buffer t.i n t.p inv h
    c.if-text-i-2.false (bounded a.kind) e
    (rw f at (sym c.in_range.ensures ∙ not-false c.in_range.result c.if-not-in_range.false-raw))
    (rw (c.with_line-pairs.ensures, f) at (ap not (sym c.many.ensures ∙ c.if-many.false))) a.buffer.now
    u.invariant.rest)

pub answer_after-requires : goal.answer_after-requires
answer_after-requires c =
    let few = c.lines.invariant.few in
    let most = few-lines c.args.kind in
    search rules

pub returns : goal.returns
unfolding pairs_over
returns c =
    let a = c.args in
    let t = c.lines in
    let s = sheet_after a.kind t.pairs in
    let g = whole_text a.kind a.from a.text.now in
    let n = t.n in
    let f = c.fields-fields.ensures in
    -- the six ways out of the loops meet here
    let h : laws.Answers s a.text.now g a.buffer.now c.if-text-i.buffer n c.if-text-i.read = elim c.if-text-i.branch [
      | then-text-i w ↦
          rw (w.buffer-is, w.read-is) (record {
            gives = laws.line-end s a.text.now g a.buffer.now t.buffer t.i n t.invariant w.if-text-i.true;
            after = t.invariant.rest;
          })
      | else-text-i+then-n-most w ↦
          rw w.read-is (record {
            gives =
                laws.too_many s a.text.now g a.buffer.now t.buffer t.i n t.invariant w.if-text-i.false
                (w.if-n-most.true ∙ c.most-most.ensures);
            after = refl;
          })
      | else-text-i+else-n-most+then-text-i-2 w ↦
          let b = w.bytes in
          let inv = b.invariant.1 in
          let p = places a.kind n inv.room in
          rw w.read-is (record {
            gives = laws.unended s a.text.now g t.buffer b.buffer b.i n b.p inv p w.if-text-i-2.true;
            after = refl;
          })
      | else-text-i+else-n-most+else-text-i-2+in-Malformed w ↦
          let b = w.bytes in
          let inv = b.invariant.1 in
          let p = places a.kind n inv.room in
          rw w.read-is (record {
            gives =
                laws.malformed s a.text.now g t.buffer b.buffer b.i n b.p inv p w.if-text-i-2.false (bounded a.kind) _
                (rw f at (sym w.step-next.ensures ∙ w.in-Malformed.is));
            after = refl;
          })
      | else-text-i+else-n-most+else-text-i-2+in-Ends+then-not-in_range w ↦
          let b = w.bytes in
          let inv = b.invariant.1 in
          let p = places a.kind n inv.room in
          rw w.read-is (record {
            gives =
                laws.outside s a.text.now g t.buffer b.buffer b.i n b.p inv p w.if-text-i-2.false (bounded a.kind)
                (rw f at (sym w.step-next.ensures ∙ w.in-Ends.is))
                (rw f at (sym w.in_range.ensures ∙ not-true w.in_range.result w.if-not-in_range.true-raw));
            after = refl;
          })
      | else-text-i+else-n-most+else-text-i-2+in-Ends+else-not-in_range+then-many w ↦
          let b = w.bytes in
          let inv = b.invariant.1 in
          let p = places a.kind n inv.room in
          rw w.read-is (record {
            gives =
                laws.crowded s a.text.now g t.buffer b.buffer b.i n b.p inv p w.if-text-i-2.false (bounded a.kind)
                (rw f at (sym w.step-next.ensures ∙ w.in-Ends.is))
                (rw f at (sym w.in_range.ensures ∙ not-false w.in_range.result w.if-not-in_range.false-raw))
                (rw (w.with_line-pairs.ensures, f) at (ap not (sym w.many.ensures ∙ w.if-many.true)));
            after = refl;
          })
    ] in
    rw c.answer_after.ensures (record { buffer_after = h.gives; buffer_unchanged = h.after })
