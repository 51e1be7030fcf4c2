use mathlib.Core.Path.{◌≡◌, sym, ap, ◌∙◌, subst}
use native.Mathlib.Omega.{arith}
use Prim.Native.Nat.{ℕ, ◌≤◌}
use borrow.Author.Rules.{rules}
use lib.ListN.{length}
use Rattle.outline_nodes.specs.Said.{said_by}
use Rattle.outline_nodes.proofs.SaidLaws.{said-some, said-none}
use Rattle.checker_trace.proofs.PartLaws.{chosen_none}
use Rattle.checker_lengths.specs.Entries.{held}
use Rattle.checker_trace.specs.declared.Part.{Part}
use Rattle.checker_trace.specs.Code.{OntoIs, stored_step, Room, PartWritten}
use Rattle.checker_trace.proofs.OtherLaws.{chosen-other}
use Rattle.checker_trace.proofs.PartWrittenLaws.{none_written, nowhere-written, static-written, name-written}
use Rattle.checker_trace.proofs.PartWrittenLaws.{first-fewer, second-fewer, first-room, second-room, sequence-written}
use Rattle.checker_trace.proofs.PartWrittenLaws.{born-written, fresh-written}
use Rattle.checker_trace.proofs.PartWrittenLaws.{opening-written, inside-written}
use Rattle.checker_trace.proofs.PartWrittenLaws.{two_steps, closing-room, sandbox-written}
use Rattle.checker_trace.proofs.write.+writing.Goals as goal

-- what the code's tests say of a number
pos : (n : ℕ) → (n ≡ 0 → ⊥) → 1 ≤ n
pos n h = omega (arith, h)

none_below : (n : ℕ) → n ≤ 0 → n ≡ 0
none_below n h = omega arith

-- ── `write` ──

pub write-returns-then-p-eq0 : goal.write-returns-then-p-eq0
write-returns-then-p-eq0 t c =
    let a = c.args in
    none_written a.x.now.watch a.x.now.rows.now a.x.now.nodes.now a.x.now.lengths.now a.p a.trace.now c.requires c.if-p-eq0.true

pub write-returns-in_default : goal.write-returns-in_default
write-returns-in_default t c =
    let a = c.args in
    let on = subst (OntoIs a.x.now.watch a.x.now.rows.now a.x.now.nodes.now a.x.now.lengths.now a.p.entry a.p.steps) c.in_default.is c.find.ensures in
    nowhere-written a.x.now.watch a.x.now.rows.now a.x.now.nodes.now a.x.now.lengths.now a.p a.trace.now c.requires on (pos _ c.if-p-eq0.false)

pub write-returns-in-OnStatic : goal.write-returns-in-OnStatic
write-returns-in-OnStatic t c =
    let a = c.args in
    let o = c.in-Some.o in
    let f = c.in-OnStatic in
    let r = c.step in
    let on = subst (OntoIs a.x.now.watch a.x.now.rows.now a.x.now.nodes.now a.x.now.lengths.now a.p.entry a.p.steps) c.in-Some.is c.find.ensures in
    static-written a.x.now.watch a.x.now.rows.now a.x.now.nodes.now a.x.now.lengths.now a.p a.trace.now c.requires (pos _ c.if-p-eq0.false) o.node o.rule on
    r.result r.ensures.value r.new.trace f.action f.resource (sym c.form.ensures ∙ said-some c.in-Some-form.is ∙ ap said_by f.is) r.ensures.trace_after

pub write-returns-in-OnName : goal.write-returns-in-OnName
write-returns-in-OnName t c =
    let a = c.args in
    let o = c.in-Some.o in
    let f = c.in-OnName in
    let r = c.step-in-OnName in
    let on = subst (OntoIs a.x.now.watch a.x.now.rows.now a.x.now.nodes.now a.x.now.lengths.now a.p.entry a.p.steps) c.in-Some.is c.find.ensures in
    let stored = r.ensures.trace_after ∙ ap (stored_step a.trace.now a.p.spot.at 0 f.action) c.name.ensures in
    name-written a.x.now.watch a.x.now.rows.now a.x.now.nodes.now a.x.now.lengths.now a.p a.trace.now c.requires (pos _ c.if-p-eq0.false) o.node o.rule on
    r.result r.ensures.value r.new.trace f.action f.i (sym c.form.ensures ∙ said-some c.in-Some-form.is ∙ ap said_by f.is) stored

pub write-returns-in_default-form : goal.write-returns-in_default-form
write-returns-in_default-form t c =
    let a = c.args in
    let o = c.in-Some.o in
    let on = subst (OntoIs a.x.now.watch a.x.now.rows.now a.x.now.nodes.now a.x.now.lengths.now a.p.entry a.p.steps) c.in-Some.is c.find.ensures in
    absurd (chosen_none a.x.now.watch a.x.now.rows.now a.x.now.nodes.now a.x.now.lengths.now a.p.entry a.p.steps o.rule c.requires.few
    (o.node, on, sym c.form.ensures ∙ said-none c.form.result c.in_default-form.not-Some))

pub write-returns-in_default-f : goal.write-returns-in_default-f
write-returns-in_default-f t c =
    let a = c.args in
    let o = c.in-Some.o in
    let d = c.in_default-f in
    let on = subst (OntoIs a.x.now.watch a.x.now.rows.now a.x.now.nodes.now a.x.now.lengths.now a.p.entry a.p.steps) c.in-Some.is c.find.ensures in
    absurd (chosen-other a.x.now.watch a.x.now.rows.now a.x.now.nodes.now a.x.now.lengths.now a.p.entry a.p.steps o.rule c.requires.few
    (pos _ c.if-p-eq0.false) c.in-Some-form.f d.not-OnStatic d.not-OnName d.not-Sequence d.not-Fresh d.not-Sandbox
    (o.node, on, sym c.form.ensures ∙ said-some c.in-Some-form.is))

-- ── `write_fresh` ──

pub write_fresh-returns-then-y-ge-BROKEN : goal.write_fresh-returns-then-y-ge-BROKEN
write_fresh-returns-then-y-ge-BROKEN t c =
    let a = c.args in
    let p = c.requires in
    let k = c.create-made in
    born-written a.x.now.watch a.x.now.rows.now a.x.now.nodes.now a.x.now.lengths.now a.p a.trace.now p.room a.y p.picked k.result k.ensures.value
    k.new.trace k.ensures.trace_after c.if-y-ge-BROKEN.true

pub write_fresh-returns : goal.write_fresh-returns
write_fresh-returns t c =
    let a = c.args in
    let p = c.requires in
    let k = c.create-made in
    let same = c.body_part.ensures in
    let four : length a.p.names.numbers ≡ 4 = search rules in
    let r = c.write in
    fresh-written a.x.now.watch a.x.now.rows.now a.x.now.nodes.now a.x.now.lengths.now a.p a.trace.now p.room a.y p.picked k.result k.ensures.value
    k.new.trace k.ensures.trace_after c.if-y-ge-BROKEN.false four r.result r.new.trace
    (subst (λ (q : Part). PartWritten a.x.now.watch a.x.now.rows.now a.x.now.nodes.now a.x.now.lengths.now q k.new.trace r.result r.new.trace) same r.ensures)

-- ── `write_sandbox` ──

pub write_sandbox-returns-then-y-gt0 : goal.write_sandbox-returns-then-y-gt0
write_sandbox-returns-then-y-gt0 t c =
    let a = c.args in
    let p = c.requires in
    let k = c.step-begun in
    opening-written a.x.now.watch a.x.now.rows.now a.x.now.nodes.now a.x.now.lengths.now a.p a.trace.now p.room a.y p.picked k.result k.ensures.value
    k.new.trace k.ensures.trace_after c.if-y-gt0.true

pub write_sandbox-returns-then-p-eq-BROKEN : goal.write_sandbox-returns-then-p-eq-BROKEN
write_sandbox-returns-then-p-eq-BROKEN t c =
    let a = c.args in
    let p = c.requires in
    let k = c.step-begun in
    let r = c.write in
    inside-written a.x.now.watch a.x.now.rows.now a.x.now.nodes.now a.x.now.lengths.now a.p a.trace.now p.room a.y p.picked k.result k.ensures.value
    k.new.trace k.ensures.trace_after (none_below _ c.if-y-gt0.false) c.if-p-eq-BROKEN.true r.result r.new.trace
    (subst (λ (q : Part). PartWritten a.x.now.watch a.x.now.rows.now a.x.now.nodes.now a.x.now.lengths.now q k.new.trace r.result r.new.trace)
    c.inner_part.ensures r.ensures)

pub write_sandbox-inner_part-requires-2 : goal.write_sandbox-inner_part-requires-2
write_sandbox-inner_part-requires-2 t c =
    let a = c.args in
    let p = c.requires in
    let k = c.step-begun in
    two_steps a.x.now.watch a.x.now.rows.now a.x.now.nodes.now a.x.now.lengths.now a.p a.trace.now p.room a.y p.picked k.result k.ensures.value
    k.new.trace k.ensures.trace_after (none_below _ c.if-y-gt0.false) c.if-p-eq-BROKEN.false

pub write_sandbox-step-requires : goal.write_sandbox-step-requires
write_sandbox-step-requires t c =
    let a = c.args in
    let p = c.requires in
    let k = c.step-begun in
    let r = c.write-done in
    closing-room a.x.now.watch a.x.now.rows.now a.x.now.nodes.now a.x.now.lengths.now a.p a.trace.now p.room a.y p.picked k.result k.ensures.value
    k.new.trace k.ensures.trace_after (none_below _ c.if-y-gt0.false) c.if-p-eq-BROKEN.false r.result r.new.trace
    (subst (λ (q : Part). PartWritten a.x.now.watch a.x.now.rows.now a.x.now.nodes.now a.x.now.lengths.now q k.new.trace r.result r.new.trace)
    c.inner_part-2.ensures r.ensures)

pub write_sandbox-returns : goal.write_sandbox-returns
write_sandbox-returns t c =
    let a = c.args in
    let p = c.requires in
    let k = c.step-begun in
    let r = c.write-done in
    sandbox-written a.x.now.watch a.x.now.rows.now a.x.now.nodes.now a.x.now.lengths.now a.p a.trace.now p.room a.y p.picked k.result k.ensures.value
    k.new.trace k.ensures.trace_after (none_below _ c.if-y-gt0.false) c.if-p-eq-BROKEN.false r.result r.new.trace
    (subst (λ (q : Part). PartWritten a.x.now.watch a.x.now.rows.now a.x.now.nodes.now a.x.now.lengths.now q k.new.trace r.result r.new.trace)
    c.inner_part-2.ensures r.ensures)
    c.step.result c.step.ensures.value c.step.new.trace c.step.ensures.trace_after

-- ── `write_sequence` ──

pub write_sequence-write-mid-requires : goal.write_sequence-write-mid-requires
write_sequence-write-mid-requires t c =
    let a = c.args in
    let p = c.requires in
    let v = c.get-v.result in
    let is = c.get-v.ensures ∙ ap (held a.x.now.lengths.now a.p.steps) c.first.ensures in
    let l = first-fewer a.x.now.watch a.x.now.rows.now a.x.now.nodes.now a.x.now.lengths.now a.p a.trace.now p.room a.y p.picked v is in
    let same = c.first_part.ensures in
    let n = ap (λ (q : Part). q.steps) same in (
      omega arith,
      subst (λ (q : Part). Room a.x.now.nodes.now q a.trace.now) (sym same)
          (first-room a.x.now.watch a.x.now.rows.now a.x.now.nodes.now a.x.now.lengths.now a.p a.trace.now p.room a.y p.picked v is),
    )

pub write_sequence-second_part-requires : goal.write_sequence-second_part-requires
write_sequence-second_part-requires t c =
    let a = c.args in
    let p = c.requires in
    let v = c.get-v.result in
    let is = c.get-v.ensures ∙ ap (held a.x.now.lengths.now a.p.steps) c.first.ensures in
    let l = first-fewer a.x.now.watch a.x.now.rows.now a.x.now.nodes.now a.x.now.lengths.now a.p a.trace.now p.room a.y p.picked v is in
    omega arith

pub write_sequence-write-requires : goal.write_sequence-write-requires
write_sequence-write-requires t c =
    let a = c.args in
    let p = c.requires in
    let v = c.get-v.result in
    let u = c.write-mid in
    let is = c.get-v.ensures ∙ ap (held a.x.now.lengths.now a.p.steps) c.first.ensures in
    let l = second-fewer a.x.now.watch a.x.now.rows.now a.x.now.nodes.now a.x.now.lengths.now a.p a.trace.now p.room a.y p.picked v is in
    let same = c.second_part.ensures in
    let n = ap (λ (q : Part). q.steps) same in (
      omega arith,
      subst (λ (q : Part). Room a.x.now.nodes.now q u.new.trace) (sym same)
          (second-room a.x.now.watch a.x.now.rows.now a.x.now.nodes.now a.x.now.lengths.now a.p a.trace.now p.room a.y p.picked v is u.result u.new.trace
          (subst (λ (q : Part). PartWritten a.x.now.watch a.x.now.rows.now a.x.now.nodes.now a.x.now.lengths.now q a.trace.now u.result u.new.trace)
          c.first_part.ensures u.ensures)),
    )

pub write_sequence-returns : goal.write_sequence-returns
write_sequence-returns t c =
    let a = c.args in
    let p = c.requires in
    let v = c.get-v.result in
    let u = c.write-mid in
    let r = c.write in
    let is = c.get-v.ensures ∙ ap (held a.x.now.lengths.now a.p.steps) c.first.ensures in
    sequence-written a.x.now.watch a.x.now.rows.now a.x.now.nodes.now a.x.now.lengths.now a.p a.trace.now p.room a.y p.picked v is u.result u.new.trace
    (subst (λ (q : Part). PartWritten a.x.now.watch a.x.now.rows.now a.x.now.nodes.now a.x.now.lengths.now q a.trace.now u.result u.new.trace)
    c.first_part.ensures u.ensures)
    r.result r.new.trace
    (subst (λ (q : Part). PartWritten a.x.now.watch a.x.now.rows.now a.x.now.nodes.now a.x.now.lengths.now q u.new.trace r.result r.new.trace)
    c.second_part.ensures r.ensures)
