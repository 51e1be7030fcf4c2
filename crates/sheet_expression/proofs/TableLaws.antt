-- What an accepted expression stores is a table of nodes that may be lent to be used (else 41), and it is that of its tree.
use Prim.Native.Nat.{ℕ, zero, suc, ◌+◌, ◌*◌, ◌/◌, ◌<◌}
use mathlib.Core.Path.{◌≡◌, refl, sym, ap, subst, ◌∙◌}
use mathlib.Core.List.{List, [], ◌∷◌, flatten}
use native.Mathlib.Omega.{arith}
use lib.ListN.{length, get_or}
use Rattle.usage.specs.declared.Node.{Node}
use Rattle.usage.specs.Limits.{node_fields}
use Rattle.usage.specs.Valid.{OutlineOk}
use Rattle.usage.specs.Tables.{from, node_at_lem, nodes_of, NodeTable}
use Rattle.usage.proofs.TableLaws.{is-from}
use Rattle.sheet_lines.specs.Sheet.{accepted}
use Rattle.sheet_grammar.specs.Nodes.{node_with, tree_nodes}
use Rattle.sheet_expression.specs.Expression.{table_rows, expression_of}
use Rattle.sheet_expression.proofs.ExpressionLaws.{accepted-line}

pub rows-length : (ns : List Node) → length (flatten (table_rows ns)) ≡ node_fields * length ns
unfolding flatten
rows-length [] = refl
rows-length (n ∷ ns) = let e = rows-length ns in omega arith

-- one node further on in the table
at-later : (x y z : ℕ) (t : List ℕ) (i : ℕ) → node_at_lem (x ∷ y ∷ z ∷ t) (suc i) ≡ node_at_lem t i
at-later x y z t i =
    let d : node_fields * suc i ≡ suc (suc (suc (node_fields * i))) = omega arith in
    let e : node_fields * suc i + 1 ≡ suc (suc (suc (node_fields * i + 1))) = omega arith in
    let f : node_fields * suc i + 2 ≡ suc (suc (suc (node_fields * i + 2))) = omega arith in
    let a : get_or (x ∷ y ∷ z ∷ t) (node_fields * suc i) 0 ≡ get_or t (node_fields * i) 0 = ap (λ j. get_or (x ∷ y ∷ z ∷ t) j 0) d in
    let b : get_or (x ∷ y ∷ z ∷ t) (node_fields * suc i + 1) 0 ≡ get_or t (node_fields * i + 1) 0 = ap (λ j. get_or (x ∷ y ∷ z ∷ t) j 0) e in
    let c : get_or (x ∷ y ∷ z ∷ t) (node_fields * suc i + 2) 0 ≡ get_or t (node_fields * i + 2) 0 = ap (λ j. get_or (x ∷ y ∷ z ∷ t) j 0) f in
    rw (a, b, c)

node_at : (ns : List Node) (i : ℕ) → i < length ns → get_or ns i (node_with 0 0 0) ≡ node_at_lem (flatten (table_rows ns)) i
unfolding flatten
node_at [] i h = absurd (let z : ⊥ = omega arith in z)
node_at (n ∷ ns) zero h = refl
node_at (n ∷ ns) (suc i) h = node_at ns i (omega arith) ∙ sym (at-later n.kind n.a n.b (flatten (table_rows ns)) i)

-- the nodes of the stored table are those of the tree
pub rows-nodes : (ns : List Node) → nodes_of (flatten (table_rows ns)) ≡ ns
unfolding nodes_of
rows-nodes ns =
    let l = rows-length ns in
    let e : length (flatten (table_rows ns)) / node_fields ≡ length ns = omega arith in
    ap (λ n. from (node_at_lem (flatten (table_rows ns))) 0 n) e
    ∙ sym (is-from (node_at_lem (flatten (table_rows ns))) (node_with 0 0 0) (length ns) ns refl (node_at ns))

rows-table : (ns : List Node) → OutlineOk ns → NodeTable (flatten (table_rows ns))
rows-table ns o =
    record {
      whole = (let l = rows-length ns in omega arith);
      outline = subst OutlineOk (sym (rows-nodes ns)) o;
    }

pub expression-table : (text : List ℕ) (rows : List (List ℕ)) → expression_of text ≡ accepted rows → NodeTable (flatten rows)
expression-table text rows e =
    let a = accepted-line text rows e in
    subst (λ r. NodeTable (flatten r)) (sym a.rows_are) (rows-table (tree_nodes a.tree) a.outline)
