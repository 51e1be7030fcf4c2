use mathlib.Core.Path.{subst}
use mathlib.Core.Bool.{true, false, ◌&&◌}
use mathlib.Core.List.{List}
use Rattle.usage.specs.Tables.{is_node_table}
use Rattle.usage.proofs.Logic.{not-true, not-false, and-false}
use Rattle.desk_positions.specs.Reading.{rows_ok_lem}
use Rattle.desk.specs.State.{nodes_in, table_in}
use Rattle.desk.specs.Calls.{Called, no_desk, ByStep}
use Rattle.desk.proofs.CallLaws.{bad-rows}
use Rattle.desk.proofs.StateLaws.{nodes-lent}
use Rattle.desk.proofs.OutlineLaws.{table-lent, table-long}
use Rattle.desk.proofs.StepLaws.{head-parts, listed-parts, rows-unfit, rows-encoded}
use mathlib.Core.Path.{◌≡◌, sym, ap, ◌∙◌}
use Prim.Native.Nat.{ℕ}
use lib.ListN.{length}
use borrow.Author.Rules.{rules}
use Rattle.desk.proofs.steps.on_outline.Goals as goal

-- src/steps.rt:183:36
pub slice_bounds-node_table_ok-end : goal.slice_bounds-node_table_ok-end
slice_bounds-node_table_ok-end c =
    let k = (head-parts c.args.h c.requires.head_is_ok).nodes in
    search rules

-- src/steps.rt:184:9
pub returns-then-not-node_table_ok : goal.returns-then-not-node_table_ok
returns-then-not-node_table_ok c =
    let a = c.args in
    let p = c.requires in
    let t = c.node_table_ok in
    let n = nodes-lent a.b.now a.h p.desk_bytes_in_bounds (head-parts a.h p.head_is_ok).nodes in
    let e : is_node_table (nodes_in a.b.now a.h) ≡ false = ap is_node_table (sym n) ∙ sym t.ensures ∙ not-true t.result c.if-not-node_table_ok.true-raw in
    subst (λ (r : ℕ). Called (ByStep a.step) a.b.now r a.b.now) (sym c.reply_code.ensures)
    (no_desk p.desk_bytes_in_bounds (bad-rows a.b.now a.h p.head_is_in p.policies_loaded (rows-unfit a.b.now a.h p.head_is_in p.policies_loaded p.listed
    (ap (λ x. x && rows_ok_lem (table_in a.b.now) a.h.positions) e))))

-- src/steps.rt:188:9
pub returns-then-not-rows_ok : goal.returns-then-not-rows_ok
returns-then-not-rows_ok c =
    let a = c.args in
    let p = c.requires in
    let k = (listed-parts a.h p.listed).few in
    let o = c.rows_ok in
    let t = table-lent a.b.now p.desk_bytes_in_bounds in
    let f : rows_ok_lem (table_in a.b.now) a.h.positions ≡ false =
    ap (λ (x : List ℕ). rows_ok_lem x a.h.positions) (sym t) ∙ sym (o.ensures.value (ap length t ∙ table-long a.b.now) k)
    ∙ not-true o.result c.if-not-rows_ok.true-raw in
    subst (λ (r : ℕ). Called (ByStep a.step) a.b.now r a.b.now) (sym c.reply_code-then-not-rows_ok.ensures)
    (no_desk p.desk_bytes_in_bounds (bad-rows a.b.now a.h p.head_is_in p.policies_loaded (rows-unfit a.b.now a.h p.head_is_in p.policies_loaded p.listed
    (and-false (is_node_table (nodes_in a.b.now a.h)) _ f))))

-- src/steps.rt:190:5
pub on_rows-requires : goal.on_rows-requires
on_rows-requires c =
    let a = c.args in
    let p = c.requires in
    let k = (listed-parts a.h p.listed).few in
    let t = c.node_table_ok in
    let n = nodes-lent a.b.now a.h p.desk_bytes_in_bounds (head-parts a.h p.head_is_ok).nodes in
    let e : is_node_table (nodes_in a.b.now a.h) ≡ true = ap is_node_table (sym n) ∙ sym t.ensures ∙ not-false t.result c.if-not-node_table_ok.false-raw in
    let o = c.rows_ok in
    let q = table-lent a.b.now p.desk_bytes_in_bounds in
    let r : rows_ok_lem (table_in a.b.now) a.h.positions ≡ true =
    ap (λ (x : List ℕ). rows_ok_lem x a.h.positions) (sym q) ∙ sym (o.ensures.value (ap length q ∙ table-long a.b.now) k)
    ∙ not-false o.result c.if-not-rows_ok.false-raw in record { desk_bytes_in_bounds = p.desk_bytes_in_bounds; head_is_in = p.head_is_in; policies_loaded = p.policies_loaded; is_encoded = rows-encoded a.b.now a.h p.head_is_in p.policies_loaded p.listed p.head_is_ok e r; listed = p.listed }
