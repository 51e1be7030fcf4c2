use Prim.Native.Nat.{◌+◌, ◌≤◌}
use mathlib.Core.Path.{refl, sym, ◌∙◌}
use native.Mathlib.Omega.{arith}
use Rattle.usage.specs.Limits.{edge_fields}
use Rattle.sheet_lines.specs.Answer.{most_values}
use Rattle.sheet_lines.proofs.PairsLaws.{line-pair}
use Rattle.sheet_lines.proofs.with_line.Goals as goal

pub bounds-buffer-base : goal.bounds-buffer-base
bounds-buffer-base c =
    let a = c.args in
    let h : a.base + edge_fields ≤ most_values = rw c.in-Policies.is at c.requires in
    omega arith

pub bounds-buffer-base-in-Policies : goal.bounds-buffer-base-in-Policies
bounds-buffer-base-in-Policies c =
    let a = c.args in
    let h : a.base + edge_fields ≤ most_values = rw c.in-Policies.is at c.requires in
    omega arith

pub returns-in-Policies : goal.returns-in-Policies
returns-in-Policies c =
    let a = c.args in
    rw c.in-Policies.is
    (c.joined.ensures ∙ sym (line-pair a.pairs edge_fields a.base a.buffer.now (omega arith)))

pub returns-in-Trace : goal.returns-in-Trace
returns-in-Trace c = rw c.in-Trace.is refl

pub returns-in-Outline : goal.returns-in-Outline
returns-in-Outline c = rw c.in-Outline.is refl
