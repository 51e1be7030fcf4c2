-- Laws of refusal 6 of one node, one for each way of the code.
use Prim.Native.Nat.{ℕ, zero, suc, ◌/◌, ◌<◌}
use mathlib.Core.Path.{◌≡◌, refl, sym, ap, ◌∙◌}
use mathlib.Core.Bool.{Bool, true, false, not, ◌&&◌}
use mathlib.Core.List.{List}
use lib.Dec.{eqb}
use lib.ListN.{length}
use borrow.Author.Tests.{not-true, not-false}
use Rattle.usage.specs.Limits.{node_fields}
use Rattle.usage.specs.Outline.{form_of, form_at}
use Rattle.usage.specs.Valid.{children_of, times_child_lem, due}
use Rattle.usage.specs.Tests.{between, tree_ok_lem}
use Rattle.usage.specs.Tables.{node_at_lem, nodes_of}
use Rattle.usage.proofs.TableLaws.{nodes-length}
use Rattle.sheet_rules.proofs.NodeLaws.{form-at}

due-one : (k : ℕ) → (k ≡ 0 → ⊥) → due k ≡ 1
due-one zero e = absurd (e refl)
due-one (suc k) e = refl

-- r is whether the children of node k are greater, and exist
module _ (t : List ℕ) (k : ℕ) (h : k < length t / node_fields) (r : Bool)
    (e : r ≡ between k (length t / node_fields) (children_of (form_of (node_at_lem t k)))) where
  tree-by : tree_ok_lem (nodes_of t) k ≡ r && eqb (times_child_lem k (nodes_of t)) (due k)
  unfolding tree_ok_lem
  tree-by = ap (λ z. z && eqb (times_child_lem k (nodes_of t)) (due k)) (
      ap (λ n. between k n (children_of (form_at (nodes_of t) k))) (nodes-length t)
      ∙ ap (λ f. between k (length t / node_fields) (children_of f)) (form-at t k h)
      ∙ sym e
      )

  pub tree-no : not r ≡ true → tree_ok_lem (nodes_of t) k ≡ false
  tree-no q = tree-by ∙ ap (λ z. z && eqb (times_child_lem k (nodes_of t)) (due k)) (not-true r q)

  module _ (q : not r ≡ false) where
    tree-yes : tree_ok_lem (nodes_of t) k ≡ eqb (times_child_lem k (nodes_of t)) (due k)
    tree-yes = tree-by ∙ ap (λ z. z && eqb (times_child_lem k (nodes_of t)) (due k)) (not-false r q)

    pub tree-root : k ≡ 0 → tree_ok_lem (nodes_of t) k ≡ eqb (times_child_lem k (nodes_of t)) 0
    tree-root z = tree-yes ∙ ap (λ d. eqb (times_child_lem k (nodes_of t)) d) (ap due z)

    pub tree-inner : (k ≡ 0 → ⊥) → tree_ok_lem (nodes_of t) k ≡ eqb (times_child_lem k (nodes_of t)) 1
    tree-inner z = tree-yes ∙ ap (λ d. eqb (times_child_lem k (nodes_of t)) d) (due-one k z)
