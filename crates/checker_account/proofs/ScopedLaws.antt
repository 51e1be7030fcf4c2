-- The names of an accepted outline are scoped as the theorem on the finite account asks.
use mathlib.Core.List.{List}
use Rattle.usage.specs.declared.Node.{Node}
use Rattle.usage.specs.Valid.{Scope, OutlineOk}
use Rattle.usage.proofs.FormLaws.{form-ok}
use Rattle.usage.proofs.ScopeLaws.{scope-root, scope-used, scope-sequence-first, scope-sequence-second, scope-choice-left}
use Rattle.usage.proofs.ScopeLaws.{scope-choice-right, scope-loop, scope-sandbox, scope-fresh, scope-back}
use Rattle.checker_account.proofs.Scoped.{Scoped}

pub scoped : (ns : List Node) → OutlineOk ns → Scoped ns (Scope ns)
scoped ns ok =
    let s = ok.shaped in
    record {
      static-acts = λ i. (form-ok ok i).0;
      name-acts = λ i. (form-ok ok i).0;
      static-small = λ i. (form-ok ok i).2;
      name-small = λ i. (form-ok ok i).2;
      fresh-small = λ i. (form-ok ok i).0;
      root = λ h. scope-root ns s h;
      used = λ i. scope-used ns s i;
      first = λ i m h. scope-sequence-first ns s i h;
      second = λ i m h. scope-sequence-second ns s i h;
      left = λ i m h. scope-choice-left ns s i h;
      right = λ i m h. scope-choice-right ns s i h;
      body = λ i m h. scope-loop ns s i h;
      again = λ i m h. scope-back ns s i h;
      given = λ i m h. scope-fresh ns s i h;
      inside = λ i m h. scope-sandbox ns s i h;
    }
