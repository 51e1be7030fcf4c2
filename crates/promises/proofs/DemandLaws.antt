-- The three demands hold, and what the later requests promise.
use Prim.Native.Nat.{ℕ}
use mathlib.Core.Path.{◌≡◌, refl, subst}
use mathlib.Core.Bool.{Bool, true, false}
use mathlib.Core.List.{List, [], flatten}
use mathlib.Core.Logic.{◌↔◌}
use lib.Dec.{leb}
use lib.ListN.{replicate}
use borrow.Author.Tests.{leb-true, leb-false}
use Rattle.usage.specs.declared.Edge.{Edge}
use Rattle.usage.specs.declared.Node.{Node}
use Rattle.usage.specs.Limits.{policies, edge_places, node_places}
use Rattle.usage.specs.Answers.{allowed}
use Rattle.usage.specs.Judge.{JudgedAll}
use Rattle.usage.specs.Check.{Leaves, Checked, accepts}
use Rattle.usage.specs.Tables.{edges_of, nodes_of, EdgeTable, NodeTable}
use Rattle.usage.proofs.JudgeLaws.{judged-all-unique}
use Rattle.usage.proofs.TableLaws.{decides-edge-table, decides-node-table}
use Rattle.monitor_state.proofs.Verdict.{all-judged-begin}
use Rattle.monitor_state.proofs.OthersLaws.{others-kept}
use Rattle.sheet_lines.specs.Sheets.{is_local}
use Rattle.sheet_reader.specs.Readers.{policies_into, outline_into}
use Rattle.sheet_reader.proofs.TableLaws.{policies-valid, outline-valid}
use Rattle.sheet_reader.proofs.Converse.{edges_given, nodes_given}
use Rattle.checker.proofs.AcceptedLaws.{never_halted}
use Rattle.checker.proofs.PolicyLaws.{none-higher}
use Rattle.checker.proofs.SummaryLaws.{exact-unique, accepted-zeros, zeros-accepted}
use Rattle.monitor_lean.proofs.LeanLaws.{lean-promise}
use Rattle.promises.specs.Demands.{GivenBy, Demand1, Demand2, Demand3, RetiringsApart, ExactFor, LeanJudge, Demands}
use Rattle.promises.proofs.JudgeNumbers.{judge-refuses}
use Rattle.monitor_state.proofs.StoredLaws.{judged-by-stored}
use Rattle.checker.proofs.RightLaws.{promise-exists}
use Rattle.promises.proofs.CheckNumbers.{check-refuses, counterexamples-hold}
use Rattle.promises.proofs.CodeNumbers.{told_by_codes}
use Rattle.promises.proofs.RenumberedLaws.{renumbered}
use Rattle.promises.proofs.ReadLaws.{read_enough}
use Rattle.promises.proofs.SheetNumbers.{policies-refuses, trace-refuses, outline-refuses}
use Rattle.promises.proofs.ExpressionPromise.{expression-refuses, expressions}
use Rattle.promises.proofs.RewrittenLaws.{rewritten}
use Rattle.promises.proofs.DeskPromise.{routine_desk}

edges-sheet : (local : Bool) (t : List ℕ) → EdgeTable t ↔ ((g : GivenBy edge_places policies_into t) × (is_local g.text ≡ local))
edges-sheet local t = (
  λ e. let h = edges_given local t ((decides-edge-table t).1 e) in
      let g = h.0 in
      (record { text = g.text; rows = g.rows; accepts = g.accepts; table_is = g.table }, h.1),
  λ h. back h.0,
)
  where
    back : GivenBy edge_places policies_into t → EdgeTable t
    back g = subst EdgeTable g.table_is ((decides-edge-table (flatten g.rows)).0
        (policies-valid edge_places g.text g.rows g.accepts))

nodes-sheet : (t : List ℕ) → NodeTable t ↔ GivenBy node_places outline_into t
nodes-sheet t = (
  λ e. let g = nodes_given t ((decides-node-table t).1 e) in
      record { text = g.text; rows = g.rows; accepts = g.accepts; table_is = g.table },
  back,
)
  where
    back : GivenBy node_places outline_into t → NodeTable t
    back g = subst NodeTable g.table_is ((decides-node-table (flatten g.rows)).0
        (outline-valid node_places g.text g.rows g.accepts))

pub demand-1 : Demand1
demand-1 = record {
  judge = judge-refuses;
  policies_reader = policies-refuses;
  trace_reader = trace-refuses;
  outline_reader = outline-refuses;
  expression_reader = expression-refuses;
  check = check-refuses;
  edges_given = edges-sheet;
  nodes_given = nodes-sheet;
}

pub demand-2 : Demand2
demand-2 local t edges raws vs =
    let j = all-judged-begin t ((decides-edge-table t).1 edges) local raws in (
      λ e. subst (JudgedAll local (edges_of t) [] false raws) e j,
      λ k. judged-all-unique j k,
    )

pub demand-3 : Demand3
demand-3 = record {
  told = promise-exists;
  right = λ local t n v c. (c.exact v).1 refl;
  no_other = λ local t n v w c r. (c.exact w).0 r;
  never_halted = λ local t n edges nodes c. never_halted t ((decides-edge-table t).1 edges) local (nodes_of n) nodes.outline (none_left c);
}
  where
    none_left : {local : Bool} {es : List Edge} {ns : List Node} → Checked local es ns allowed → (p : ℕ) → Leaves local es ns p → ⊥
    none_left (accepts f) = f

pub retirings_apart : RetiringsApart
retirings_apart = others-kept

-- ── The lean judge ──

module _ (local : Bool) (t n m : List ℕ) (e : EdgeTable t) (k : NodeTable n) (x : ExactFor local t n m) where
  no-mark : Checked local (edges_of t) (nodes_of n) allowed → m ≡ replicate policies 0
  no-mark (accepts none-leaves) =
      exact-unique local (edges_of t) (nodes_of n) m (replicate policies 0) x (accepted-zeros local (edges_of t) (nodes_of n) none-leaves)

  unmarked : m ≡ replicate policies 0 → Checked local (edges_of t) (nodes_of n) allowed
  unmarked z = accepts (λ p l. go p l (leb policies p) refl)
    where
      go : (p : ℕ) → Leaves local (edges_of t) (nodes_of n) p → (b : Bool) → leb policies p ≡ b → ⊥
      go p l true f = none-higher local t n e.edges k.outline p (leb-true policies p f) l
      go p l false f =
          zeros-accepted local (edges_of t) (nodes_of n) k.outline (subst (ExactFor local t n) z x) p (leb-false policies p f) l

pub lean_judge : LeanJudge
lean_judge = record {
  one_summary = λ local t n m k. exact-unique local (edges_of t) (nodes_of n) m k;
  answers = λ local t n m e k x. (lean-promise t local m).answers e (nodes_of n) k.outline x;
  answers_all = λ local t n m e k x. (lean-promise t local m).answers_all e (nodes_of n) k.outline x;
  accepted = λ local t n m e k x. (no-mark local t n m e k x, unmarked local t n m e k x);
}

pub demands : Demands
demands = record {
  first = demand-1;
  second = demand-2;
  third = demand-3;
  counterexamples = counterexamples-hold;
  told_by_codes = told_by_codes;
  renumbered = renumbered;
  by_stored_sets = judged-by-stored;
  retirings_apart = retirings_apart;
  lean_judge = lean_judge;
  rewritten = rewritten;
  expressions = expressions;
  routine_desk = routine_desk;
  read_enough = read_enough;
}
