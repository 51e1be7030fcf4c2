use mathlib.Core.Path.{subst, ◌∙◌}
use mathlib.Core.List.{List}
use Prim.Native.Nat.{ℕ}
use Rattle.checker.specs.Promise.{outcome_verdict, CheckPromise}
use Rattle.api_records.proofs.TableLaws.{few-held, held-flat, many-checked}
use Rattle.api_records.proofs.check_records.Goals as goal

pub held-requires : goal.held-requires
held-requires c = let h = c.in-Some.ensures in few-held c.args.edges.now h.0 c.in-Some.table h.1

pub returns-in-Some : goal.returns-in-Some
returns-in-Some c =
    let a = c.args in
    let h = c.in-Some.ensures in
    subst (λ (t : List ℕ). CheckPromise a.local t a.nodes.now (outcome_verdict c.check.result))
    (c.held.ensures ∙ held-flat a.edges.now h.0 c.in-Some.table h.1) c.check.ensures

pub returns-in-None : goal.returns-in-None
returns-in-None c = let a = c.args in many-checked a.local a.edges.now a.nodes.now c.in-None.ensures
