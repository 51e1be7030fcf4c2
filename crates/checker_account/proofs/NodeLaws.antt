-- The nodes of an accepted outline: their fields are small enough for the tables, and the flat table tells their forms.
use Prim.Native.Nat.{ℕ, ◌/◌, ◌<◌, ◌≤◌}
use mathlib.Core.Path.{◌≡◌, refl, sym, ap, ◌∙◌}
use mathlib.Core.Bool.{Bool, true, false}
use mathlib.Core.Option.{some}
use mathlib.Core.List.{List}
use native.Mathlib.Omega.{arith}
use lib.Dec.{leb}
use lib.ListN.{length}
use borrow.Author.Tests.{leb-true, leb-false}
use Rattle.usage.specs.declared.Node.{Node}
use Rattle.usage.specs.Limits.{node_fields, most_nodes}
use Rattle.usage.specs.Outline.{Form, form_in, form_at}
use Rattle.usage.specs.Valid.{OutlineOk}
use Rattle.usage.specs.Tables.{nodes_of}
use Rattle.usage.proofs.Logic.{none-some}
use Rattle.usage.proofs.FormLaws.{form-ok, exists}
use Rattle.usage.proofs.TableLaws.{nodes-at, nodes-past}
use Rattle.checker_account.specs.Holds.{NamesOk, TargetsOk}
use Rattle.checker_account.specs.Filling.{FormsOf, forms_in}

module _ (ns : List Node) (ok : OutlineOk ns) where
  pub names-ok : NamesOk ns
  names-ok = record { static = λ i. (form-ok ok i).2; used = λ i. (form-ok ok i).2; given = λ i. (form-ok ok i).0 }

  pub targets-ok : TargetsOk ns
  targets-ok = record {
    own = λ i. let l = exists i in let few : length ns ≤ most_nodes = ok.few in omega arith;
    sequence = λ i. form-ok ok i;
    choice = λ i. form-ok ok i;
    loop = λ i. form-ok ok i;
    back = λ i. form-ok ok i;
    fresh = λ i. (form-ok ok i).1;
    sandbox = λ i. (form-ok ok i).1;
  }

-- ── The flat table ──

module _ (t : List ℕ) where
  pub forms-of : FormsOf (nodes_of t) (length t / node_fields) (forms_in t)
  forms-of = record {
    is = λ k f l e. record { form = ap form_in (nodes-at t k l) ∙ e };
    has = λ k f i. go k f i.form (leb (length t / node_fields) k) refl;
  }
    where
      go : (k : ℕ) (f : Form) → form_at (nodes_of t) k ≡ some f → (b : Bool) → leb (length t / node_fields) k ≡ b
          → (k < length t / node_fields) × (forms_in t k ≡ some f)
      go k f h true e = none-some (ap form_in (sym (nodes-past t k (leb-true (length t / node_fields) k e))) ∙ h)
      go k f h false e = let l = leb-false (length t / node_fields) k e in (l, ap form_in (sym (nodes-at t k l)) ∙ h)
