use mathlib.Core.Path.{sym, ap, ◌∙◌, subst}
use Prim.Native.Nat.{ℕ, ◌+◌}
use native.Mathlib.Omega.{arith}
use Rattle.std.specs.Prelude.{Option as Maybe, Some}
use Rattle.checker_lengths.specs.Held.{watch_of}
use Rattle.checker_trace.specs.declared.Shortest.{Shortest}
use Rattle.checker_trace.specs.Code.{root_of, Sought, Kept}
use Rattle.checker_trace.proofs.ShownLaws as laws
use Rattle.checker_trace.proofs.least.Goals as goal
use Rattle.checker_trace.proofs.least.Goals.{in-Some, in_default}

pub loop-x-preserved : goal.loop-x-preserved
loop-x-preserved c =
    let a = c.args in
    let rows = a.rows.now in
    let nodes = a.nodes.now in
    let l = c.loop-x in
    let s = c.steps in
    let w = watch_of a.local a.p l.x in
    let P : Maybe Shortest → Type 0 = λ q. laws.Least-below a.local a.p rows nodes (l.x + 1) q × Kept a.local a.p rows nodes q s.new.t in
    elim c.match-steps.branch [
      | in-Some b ↦
          let v = b.in-Some.v in
          let h = subst (λ (q : Maybe ℕ). Sought w rows nodes l.t q s.new.t) b.in-Some.is s.ensures in
          let fits = laws.held-fits s.new.t (root_of l.x) in
          subst P (sym (b.found-is ∙ ap Some b.shorter.ensures)) (
            laws.least-next a.local a.p rows nodes l.found l.invariant.0 (omega arith) v (omega (arith, h.1)) (s.new.t, h.0, h.1),
            laws.kept-next a.local a.p rows nodes l.found l.x v s.new.t h.0,
          )
      | in_default b ↦
          let h = subst (λ (q : Maybe ℕ). Sought w rows nodes l.t q s.new.t) b.in_default.is s.ensures in
          subst P (sym b.found-is) (
            laws.least-past a.local a.p rows nodes l.invariant.0 h.0,
            subst (Kept a.local a.p rows nodes l.found) (sym h.1) l.invariant.1,
          )
    ]
