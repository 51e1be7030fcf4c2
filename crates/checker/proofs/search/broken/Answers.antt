use mathlib.Core.Path.{◌≡◌, sym, ◌∙◌, subst}
use mathlib.Core.Bool.{Bool, true, false}
use mathlib.Core.List.{List}
use mathlib.Core.Logic.{◌⊎◌, inl, inr}
use native.Mathlib.Omega.{arith}
use Prim.Native.Nat.{ℕ, ◌/◌, ◌<◌}
use lib.ListN.{length}
use borrow.Author.Count.{below_more}
use Rattle.usage.specs.Limits.{node_fields}
use Rattle.usage.specs.Valid.{OutlineOk}
use Rattle.usage.specs.Tables.{nodes_of}
use Rattle.checker_account.specs.declared.Resources.{Resources}
use Rattle.checker_account.specs.Filling.{forms_in, Skips, found, none_found}
use Rattle.checker_account.specs.Choices.{choice_count, choice_at}
use Rattle.checker_account.proofs.ChoiceLaws.{choice-asked, asked-numbered}
use Rattle.checker_tables.specs.Search.{has_room, SearchedIn, SearchedIf}
use Rattle.checker_tables.proofs.FitLaws.{outline-fits}
use Rattle.checker.specs.Code.{worth_of}
use Rattle.checker.proofs.WorthLaws.{not-worth}
use Rattle.checker.proofs.search.broken.Goals as goal
use Rattle.checker.proofs.search.broken.Goals.{else-worth-via-then-worth+else-breaks as unbroken, else-worth-via-else-worth as unworthy}
use Rattle.checker.proofs.search.broken.Invariants.{Clear}

-- the nodes of an accepted outline fit
told : (nodes : List ℕ) (local : Bool) (rows : List ℕ) (p : ℕ) (x y : Resources) (r answer : Bool) → OutlineOk (nodes_of nodes)
    → x ≡ y → SearchedIf (has_room nodes) nodes local rows p x r → r ≡ answer → SearchedIn nodes local rows p y answer
told nodes local rows p x y r answer ok same h e =
    subst (λ (y : Resources). SearchedIn nodes local rows p y answer) same
    (subst (SearchedIn nodes local rows p x) e (subst (λ (b : Bool). SearchedIf b nodes local rows p x r) (outline-fits nodes ok) h))

skipped : (nodes : List ℕ) (local : Bool) (rows : List ℕ) (p : ℕ) (pair : Bool) (j : ℕ) (x : Resources) (r : Bool) → x ≡ choice_at pair j
    → r ≡ worth_of nodes x → r ≡ false → Clear nodes local rows p pair j
skipped nodes local rows p pair j x r same h e =
    inl (subst (Skips (length nodes / node_fields) (forms_in nodes)) same (not-worth nodes x (sym h ∙ e)))

pub returns-then-breaks : goal.returns-then-breaks
returns-then-breaks c =
    let a = c.args in
    let i = c.loop-i.i in
    let n = c.count-i-end in
    let x = c.at in
    let l : i < choice_count a.pair = omega (arith, c.loop-i-test.true, n.ensures) in
    found (choice-asked a.pair i l)
    (told a.nodes.now a.local a.rows.now a.p x.result (choice_at a.pair i) c.breaks.result true
    c.requires x.ensures c.breaks.ensures c.if-breaks.true)

pub loop-i-preserved : goal.loop-i-preserved
loop-i-preserved c =
    let a = c.args in
    let l = c.loop-i in
    let x = c.at in
    below_more (Clear a.nodes.now a.local a.rows.now a.p a.pair) l.i l.invariant
    (elim c.else-worth.branch [
      | unbroken w ↦ inr (told a.nodes.now a.local a.rows.now a.p x.result (choice_at a.pair l.i) w.breaks.result false c.requires
          x.ensures w.breaks.ensures w.if-breaks.false)
      | unworthy w ↦ skipped a.nodes.now a.local a.rows.now a.p a.pair l.i x.result c.worth.result x.ensures c.worth.ensures
          w.if-worth.false
    ])

pub returns : goal.returns
returns c =
    let a = c.args in
    let l = c.loop-i in
    let n = c.count-i-end in
    let e : l.i ≡ choice_count a.pair = omega (arith, n.ensures) in
    none_found (λ y h.
    let k = asked-numbered h in
    subst (λ (y : Resources). Skips (length a.nodes.now / node_fields) (forms_in a.nodes.now) y
    ⊎ SearchedIn a.nodes.now a.local a.rows.now a.p y false) k.same
    (l.invariant k.number (subst (λ (m : ℕ). k.number < m) (sym e) k.small)))
