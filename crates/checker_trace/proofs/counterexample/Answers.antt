use mathlib.Core.Path.{◌≡◌, sym, ◌∙◌, subst}
use mathlib.Core.List.{List}
use mathlib.Core.Logic.{inl, inr}
use native.Mathlib.Omega.{arith}
use Prim.Native.Nat.{ℕ, ◌<◌}
use lib.ListN.{length}
use Rattle.std.specs.Prelude.{Option as Maybe, Some}
use Rattle.usage.specs.Limits.{most_shown}
use Rattle.usage.specs.Tables.{edges_of, nodes_of}
use Rattle.usage.proofs.Decides.{refutes}
use Rattle.usage.proofs.ValidLaws.{no-pair}
use Rattle.usage.proofs.TableLaws.{decides-edge-table, decides-node-table}
use Rattle.checker_account.specs.Single.{watching}
use Rattle.checker_account.proofs.Writing.{written-length}
use Rattle.checker_trace.specs.declared.Shortest.{Shortest}
use Rattle.std.specs.Prelude.{Ok}
use Rattle.checker_trace.specs.declared.Length.TheVariants.{Of}
use Rattle.checker_trace.specs.Steps.{laid}
use Rattle.checker_trace.specs.Answer.{Told, ToldAs}
use Rattle.checker_trace.specs.Code.{length_in, ShortestIs, Kept}
use Rattle.checker_trace.proofs.ShownLaws as laws
use Rattle.checker_trace.proofs.counterexample.Goals as goal

pub returns-then-trace-lt-MOST_NUMBERS : goal.returns-then-trace-lt-MOST_NUMBERS
returns-then-trace-lt-MOST_NUMBERS c = ToldAs.too_small c.if-trace-lt-MOST_NUMBERS.true

pub returns-then-not-edge_table_ok : goal.returns-then-not-edge_table_ok
returns-then-not-edge_table_ok c =
    ToldAs.no_table c.if-trace-lt-MOST_NUMBERS.false
    (inl (refutes (decides-edge-table c.args.edges.now) (sym c.edge_table_ok.ensures ∙ c.if-not-edge_table_ok.true)))

pub returns-then-not-node_table_ok : goal.returns-then-not-node_table_ok
returns-then-not-node_table_ok c =
    ToldAs.no_table c.if-trace-lt-MOST_NUMBERS.false
    (inr (refutes (decides-node-table c.args.nodes.now) (sym c.node_table_ok.ensures ∙ c.if-not-node_table_ok.true)))

pub returns-then-p-ge-POLICIES : goal.returns-then-p-ge-POLICIES
returns-then-p-ge-POLICIES c =
    let a = c.args in
    let et = (decides-edge-table a.edges.now).0 (sym c.edge_table_ok.ensures ∙ c.if-not-edge_table_ok.false) in
    let nt = (decides-node-table a.nodes.now).0 (sym c.node_table_ok.ensures ∙ c.if-not-node_table_ok.false) in
    ToldAs.longer c.if-trace-lt-MOST_NUMBERS.false et nt
    (laws.no-policy-shown a.local (edges_of a.edges.now) et.edges a.p c.if-p-ge-POLICIES.true a.nodes.now)

pub returns-in_default : goal.returns-in_default
returns-in_default c =
    let a = c.args in
    let et = (decides-edge-table a.edges.now).0 (sym c.edge_table_ok.ensures ∙ c.if-not-edge_table_ok.false) in
    let nt = (decides-node-table a.nodes.now).0 (sym c.node_table_ok.ensures ∙ c.if-not-node_table_ok.false) in
    let rows = c.fill.new.rows in
    let src = laws.source_of a.edges.now a.nodes.now et.edges nt.outline a.p c.if-p-ge-POLICIES.false rows c.fill.ensures in
    ToldAs.longer c.if-trace-lt-MOST_NUMBERS.false et nt
    (laws.shown-none a.local (edges_of a.edges.now) a.nodes.now a.p rows src c.least.result
    c.least.ensures.shortest_is (no-pair et.edges a.p) et.edges nt.outline
    (subst (λ (q : Maybe Shortest). most_shown < length_in q) (sym c.in_default.is) (omega arith)))

pub returns-then-n-gt-MOST : goal.returns-then-n-gt-MOST
returns-then-n-gt-MOST c =
    let a = c.args in
    let et = (decides-edge-table a.edges.now).0 (sym c.edge_table_ok.ensures ∙ c.if-not-edge_table_ok.false) in
    let nt = (decides-node-table a.nodes.now).0 (sym c.node_table_ok.ensures ∙ c.if-not-node_table_ok.false) in
    let rows = c.fill.new.rows in
    let src = laws.source_of a.edges.now a.nodes.now et.edges nt.outline a.p c.if-p-ge-POLICIES.false rows c.fill.ensures in
    ToldAs.longer c.if-trace-lt-MOST_NUMBERS.false et nt
    (laws.shown-none a.local (edges_of a.edges.now) a.nodes.now a.p rows src c.least.result
    c.least.ensures.shortest_is (no-pair et.edges a.p) et.edges nt.outline
    (subst (λ (q : Maybe Shortest). most_shown < length_in q) (sym c.in-Some.is) c.if-n-gt-MOST.true))

pub show-requires : goal.show-requires
show-requires c =
    let a = c.args in
    let et = (decides-edge-table a.edges.now).0 (sym c.edge_table_ok.ensures ∙ c.if-not-edge_table_ok.false) in
    let nt = (decides-node-table a.nodes.now).0 (sym c.node_table_ok.ensures ∙ c.if-not-node_table_ok.false) in
    let rows = c.fill.new.rows in record {
      node_fields_len_bound = laws.few_nodes a.edges.now a.nodes.now et.edges nt.outline a.p c.if-p-ge-POLICIES.false rows c.fill.ensures;
      n_le_most_shown = c.if-n-gt-MOST.false;
      table_of = subst (λ (q : Maybe Shortest). Kept a.local a.p rows a.nodes.now q c.least.new.t) c.in-Some.is c.least.ensures.kept;
      most_numbers_in_bounds = c.if-trace-lt-MOST_NUMBERS.false;
    }

pub returns : goal.returns
returns c =
    let a = c.args in
    let et = (decides-edge-table a.edges.now).0 (sym c.edge_table_ok.ensures ∙ c.if-not-edge_table_ok.false) in
    let nt = (decides-node-table a.nodes.now).0 (sym c.node_table_ok.ensures ∙ c.if-not-node_table_ok.false) in
    let rows = c.fill.new.rows in
    let src = laws.source_of a.edges.now a.nodes.now et.edges nt.outline a.p c.if-p-ge-POLICIES.false rows c.fill.ensures in
    let r = c.in-Some.found in
    let least = subst (ShortestIs a.local a.p rows a.nodes.now) c.in-Some.is c.least.ensures.shortest_is in
    let few = c.if-n-gt-MOST.false in
    let (small, steps) = least.told in
    let es = edges_of a.edges.now in
    let (after, run, same) = c.show.ensures.shows es (src r.resource small) steps in
    let shown = laws.shown-some a.local es a.nodes.now a.p rows src (Some r) least (no-pair et.edges a.p) r.resource small
    et.edges nt.outline few after run in
    let long = written-length a.local es (nodes_of a.nodes.now) a.p (watching r.resource) run in
    let n : length after ≡ r.length = long ∙ omega arith in
    subst (λ (u : List ℕ). Told a.local a.edges.now a.nodes.now a.p a.trace.now (Ok (Of r.length)) u) (sym same)
    (subst (λ (i : ℕ). Told a.local a.edges.now a.nodes.now a.p a.trace.now (Ok (Of i)) (laid a.trace.now after)) n
    (ToldAs.this_long c.if-trace-lt-MOST_NUMBERS.false et nt shown))
