-- Cases I to L: the check's search is computed, and by the laws behind the check's promise its answer is the right one.
use Prim.Native.Nat.{ℕ, zero, suc, ◌/◌, ◌<◌, ◌≤◌}
use mathlib.Core.Path.{◌≡◌, refl, sym, ap, subst}
use mathlib.Core.Bool.{Bool, true, false, ◌||◌}
use mathlib.Core.List.{List, [], ◌∷◌}
use mathlib.Core.Logic.{◌⊎◌, inl, inr}
use native.Mathlib.Omega.{arith}
use lib.Dec.{lit<}
use borrow.Author.Tests.{ne_eqb}
use lib.ListN.{length, replicate}
use Rattle.usage.specs.Limits.{node_fields}
use Rattle.usage.specs.Outline.{form_of}
use Rattle.usage.specs.Valid.{times, times_child_lem}
use Rattle.usage.specs.Tables.{from, edges_of, nodes_of, EdgeTable, NodeTable, is_edge_table, is_node_table}
use Rattle.usage.specs.Tests.{Decides, every, some_of, some_below, edge_ok, is_pair, three_pairs, edges_ok, node_ok, between, tree_ok_lem, is_child_lem}
use Rattle.usage.specs.Tests.{above, back_ok_lem, gives_name_lem, name_ok_lem, lowest_failing, ruled_by, outline_ok}
use Rattle.usage.specs.Answers.{violated}
use Rattle.usage.specs.Check.{Leaves, Checked, accepts, names}
use Rattle.usage.proofs.Decides.{refutes}
use mathlib.Core.Logic.{inl}
use Rattle.usage.proofs.Logic.{by_cases}
use Rattle.usage.proofs.TableLaws.{decides-edge-table, decides-node-table}
use Rattle.checker_account.specs.Account.{watched}
use Rattle.automaton.specs.Move.{rows_at}
use Rattle.checker_account.specs.Tables.{one_resource, places, rows_in}
use Rattle.checker_account.specs.Filling.{forms_in, one, SearchedAll, found}
use Rattle.checker_account.specs.RowTable.{fill_rows}
use Rattle.checker.specs.Code.{opens, pair_in}
use Rattle.checker.proofs.PolicyLaws.{unmoved, looked}
use Rattle.test_cases.specs.JudgeCases.{P}
use Rattle.test_cases.specs.Cases.{CheckRight, edges_j, edges_k, nodes_i, nodes_j, nodes_l, case_i, case_j, case_k, case_l}
use Rattle.test_cases.proofs.Searches.{any_static, row_table, stays_by, stays_at, tells-by, tells_at, told_at, none_told}

-- ── Any case ──

module _ (local : Bool) (e t : List ℕ) (edges : EdgeTable e) (nodes : NodeTable t) where
  -- a policy that no sandbox opens is never left open
  pub not_left : (p : ℕ) → opens t p ≡ false → Leaves local (edges_of e) (nodes_of t) p → ⊥
  not_left p h = refutes (unmoved local e t edges.edges nodes.outline p (inl h)) refl

  module _ (alone : pair_in e 0 ≡ false) where
    searched : (answer : Bool) → SearchedAll local (rows_in (row_table e t 0)) 0 false (length t / node_fields) (forms_in t) answer
        → Decides answer (Leaves local (edges_of e) (nodes_of t) 0)
    unfolding row_table
    searched answer h =
        looked local e t edges.edges nodes.outline 0 (lit< tt) (row_table e t 0)
        (ap (λ (b : Bool). fill_rows (rows_at (edges_of e)) b 0 (length t / node_fields) (forms_in t) (replicate places 0)) (sym alone)) answer
        (subst (λ (b : Bool). SearchedAll local (rows_in (row_table e t 0)) 0 b (length t / node_fields) (forms_in t) answer) (sym alone) h)

    -- so many rounds show that policy 0 is not left open and not respected
    pub not-broken : (j : List ℕ) (k : ℕ) → any_static t ≡ false → stays_at local e t 0 (one_resource watched) j k ≡ true → tells_at local e t 0 (one_resource watched) j k false ≡ true
        → Leaves local (edges_of e) (nodes_of t) 0 → ⊥
    not-broken j k h g d = refutes (searched false (none_told local e t 0 j k h g d)) refl

    -- so many show that it is, by the instance of resource x
    pub broken : (x : ℕ) (j : List ℕ) (k : ℕ) → x ≤ watched → stays_at local e t 0 (one_resource x) j k ≡ true → tells_at local e t 0 (one_resource x) j k true ≡ true → Leaves local (edges_of e) (nodes_of t) 0
    broken x j k b g h = (searched true (found (one {x = x} b) (told_at local e t 0 (one_resource x) j k true g h))).0 refl

  -- then it is named
  pub names-0 : Leaves local (edges_of e) (nodes_of t) 0 → Checked local (edges_of e) (nodes_of t) (violated 0)
  names-0 l = names l (λ s h m. omega arith)

  zero-or-more : (p : ℕ) → (p ≡ 0) ⊎ (0 < p)
  zero-or-more zero = inl refl
  zero-or-more (suc p) = inr (omega arith)

  -- so many rounds show that no policy is, where no sandbox is but that of policy 0
  pub none-broken : pair_in e 0 ≡ false → (j : List ℕ) (k : ℕ) → any_static t ≡ false → stays_at local e t 0 (one_resource watched) j k ≡ true → tells_at local e t 0 (one_resource watched) j k false ≡ true
      → ((p : ℕ) → 0 < p → opens t p ≡ false) → (p : ℕ) → Leaves local (edges_of e) (nodes_of t) p → ⊥
  none-broken alone j k h g d s p l =
      by_cases (zero-or-more p) (λ z. not-broken alone j k h g d (subst (Leaves local (edges_of e) (nodes_of t)) z l))
      (λ m. not_left p (s p m) l)

-- ── The tables of the cases ──

table-P : EdgeTable P
unfolding from edges_of is_edge_table every some_of some_below edge_ok is_pair three_pairs edges_ok
table-P = (decides-edge-table P).0 refl

table-J : EdgeTable edges_j
unfolding from edges_of is_edge_table every some_of some_below edge_ok is_pair three_pairs edges_ok
table-J = (decides-edge-table edges_j).0 refl

table-K : EdgeTable edges_k
unfolding from edges_of is_edge_table every some_of some_below edge_ok is_pair three_pairs edges_ok
table-K = (decides-edge-table edges_k).0 refl

outline-I : NodeTable nodes_i
unfolding from nodes_of is_node_table outline_ok node_ok every ruled_by lowest_failing
    tree_ok_lem between times times_child_lem back_ok_lem name_ok_lem above is_child_lem gives_name_lem
    some_below form_of
outline-I = (decides-node-table nodes_i).0 refl

outline-J : NodeTable nodes_j
unfolding from nodes_of is_node_table outline_ok node_ok every ruled_by lowest_failing
    tree_ok_lem between times times_child_lem back_ok_lem name_ok_lem above is_child_lem gives_name_lem
    some_below form_of
outline-J = (decides-node-table nodes_j).0 refl

pub outline-L : NodeTable nodes_l
unfolding from nodes_of is_node_table outline_ok node_ok every ruled_by lowest_failing
    tree_ok_lem between times times_child_lem back_ok_lem name_ok_lem above is_child_lem gives_name_lem
    some_below form_of
outline-L = (decides-node-table nodes_l).0 refl

-- ── The searches ──

-- in this order the nodes are settled, and the tables of ends are complete
abbrev order-I : List ℕ
order-I = 8 ∷ 6 ∷ 3 ∷ 2 ∷ 1 ∷ 9 ∷ 7 ∷ 5 ∷ 4 ∷ 2 ∷ 1 ∷ 9 ∷ 7 ∷ 5 ∷ 4 ∷ 2 ∷ 1 ∷ 0 ∷ []

abbrev order-J : List ℕ
order-J = 6 ∷ 3 ∷ 2 ∷ 1 ∷ 7 ∷ 5 ∷ 4 ∷ 2 ∷ 1 ∷ 7 ∷ 5 ∷ 4 ∷ 2 ∷ 1 ∷ 0 ∷ []

abbrev order-K : List ℕ
order-K =
    8 ∷ 6 ∷ 3 ∷ 2 ∷ 1 ∷ 9 ∷ 7 ∷ 5 ∷ 4 ∷ 2 ∷ 1 ∷ 9 ∷ 7 ∷ 5 ∷ 4 ∷ 2 ∷ 1 ∷ 9 ∷ 7 ∷ 5 ∷ 4 ∷ 2 ∷ 1 ∷ 9 ∷ 7 ∷ 5 ∷ 4 ∷ 2 ∷ 1 ∷ 0 ∷ []

static-I : any_static nodes_i ≡ false
unfolding any_static some_below form_of
static-I = refl

still-I : stays_at false P nodes_i 0 (one_resource watched) order-I 3 ≡ true
unfolding row_table stays_by stays_at
still-I = refl

dynamic-I : tells_at false P nodes_i 0 (one_resource watched) order-I 3 false ≡ true
unfolding row_table tells-by tells_at
dynamic-I = refl

static-J : any_static nodes_j ≡ false
unfolding any_static some_below form_of
static-J = refl

still-J : stays_at false edges_j nodes_j 0 (one_resource watched) order-J 3 ≡ true
unfolding row_table stays_by stays_at
still-J = refl

dynamic-J : tells_at false edges_j nodes_j 0 (one_resource watched) order-J 3 false ≡ true
unfolding row_table tells-by tells_at
dynamic-J = refl

still-K : stays_at false edges_k nodes_i 0 (one_resource 0) order-K 4 ≡ true
unfolding row_table stays_by stays_at
still-K = refl

broken-K : tells_at false edges_k nodes_i 0 (one_resource 0) order-K 4 true ≡ true
unfolding row_table tells-by tells_at
broken-K = refl

-- their policies are about one resource
alone-P : pair_in P 0 ≡ false
unfolding pair_in some_below
alone-P = refl

alone-J : pair_in edges_j 0 ≡ false
unfolding pair_in some_below
alone-J = refl

alone-K : pair_in edges_k 0 ≡ false
unfolding pair_in some_below
alone-K = refl

-- no sandbox but that of policy 0
shut-I : (p : ℕ) → 0 < p → opens nodes_i p ≡ false
unfolding opens some_below form_of
shut-I p l = ap (λ (b : Bool). b || false) (ne_eqb 0 p (λ e. omega arith))

shut-J : (p : ℕ) → 0 < p → opens nodes_j p ≡ false
unfolding opens some_below form_of
shut-J p l = ap (λ (b : Bool). b || false) (ne_eqb 0 p (λ e. omega arith))

shut-L : (p : ℕ) → opens nodes_l p ≡ false
unfolding opens some_below form_of
shut-L p = refl

-- ── The cases ──

pub right-I : CheckRight case_i
right-I = record {
  edges_table = table-P;
  nodes_table = outline-I;
  checked = accepts (none-broken false P nodes_i table-P outline-I alone-P order-I 3 static-I still-I dynamic-I shut-I);
}

pub right-J : CheckRight case_j
right-J = record {
  edges_table = table-J;
  nodes_table = outline-J;
  checked = accepts (none-broken false edges_j nodes_j table-J outline-J alone-J order-J 3 static-J still-J dynamic-J shut-J);
}

pub right-K : CheckRight case_k
right-K = record {
  edges_table = table-K;
  nodes_table = outline-I;
  checked = names-0 false edges_k nodes_i table-K outline-I
      (broken false edges_k nodes_i table-K outline-I alone-K 0 order-K 4 (omega arith) still-K broken-K);
}

pub right-L : CheckRight case_l
right-L = record {
  edges_table = table-P;
  nodes_table = outline-L;
  checked = accepts (λ p l. not_left false P nodes_l table-P outline-L p (shut-L p) l);
}
