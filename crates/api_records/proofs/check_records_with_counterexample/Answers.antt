use mathlib.Core.Path.{subst, ◌∙◌}
use mathlib.Core.List.{List}
use Prim.Native.Nat.{ℕ}
use Rattle.checker_counterexample.specs.Explained.{Explained}
use Rattle.api_records.proofs.TableLaws.{few-held, held-flat, many-checked}
use Rattle.api_records.proofs.check_records_with_counterexample.Goals as goal

pub returns-then-trace-lt-MOST_NUMBERS : goal.returns-then-trace-lt-MOST_NUMBERS
returns-then-trace-lt-MOST_NUMBERS c = Explained.too_small c.if-trace-lt-MOST_NUMBERS.true

pub held-requires : goal.held-requires
held-requires c = let h = c.in-Some.ensures in few-held c.args.edges.now h.0 c.in-Some.records h.1

pub returns-in_default : goal.returns-in_default
returns-in_default c =
    let a = c.args in
    Explained.refused_with c.if-trace-lt-MOST_NUMBERS.false (many-checked a.local a.edges.now a.nodes.now c.in_default.ensures)

pub returns : goal.returns
returns c =
    let a = c.args in
    let e = c.check_with_counterexample in
    let h = c.in-Some.ensures in
    subst (λ (t : List ℕ). Explained a.local t a.nodes.now a.trace.now e.result e.new.trace)
    (c.held.ensures ∙ held-flat a.edges.now h.0 c.in-Some.records h.1) e.ensures
