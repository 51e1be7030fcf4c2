use mathlib.Core.Path.{subst}
use Rattle.usage.proofs.Logic.{not-true}
use Rattle.desk.specs.Calls.{Called, too_short, no_desk, called, ByStep, replied}
use Rattle.desk.proofs.CallLaws.{nothing-loaded, bad-head}
use mathlib.Core.Path.{refl, sym, ◌∙◌}
use Prim.Native.Nat.{ℕ}
use Rattle.desk.proofs.step.Goals as goal

-- src/lib.rt:51:9
pub returns-then-state-lt-DESK_BYTES : goal.returns-then-state-lt-DESK_BYTES
returns-then-state-lt-DESK_BYTES c =
    let a = c.args in
    subst (λ (r : ℕ). Called (ByStep (record { kind = a.kind; a = a.a; b = a.b })) a.state.now r a.state.now) (sym c.refused.ensures)
    (too_short c.if-state-lt-DESK_BYTES.true)

-- src/lib.rt:55:9
pub returns-then-h-eq0 : goal.returns-then-h-eq0
returns-then-h-eq0 c =
    let a = c.args in
    subst (λ (r : ℕ). Called (ByStep (record { kind = a.kind; a = a.a; b = a.b })) a.state.now r a.state.now) (sym c.refused-then-h-eq0.ensures)
    (called c.if-state-lt-DESK_BYTES.false (nothing-loaded a.state.now _ (sym c.head_in-h.ensures) c.if-h-eq0.true) replied refl)

-- src/lib.rt:58:9
pub returns-then-not-head_ok : goal.returns-then-not-head_ok
returns-then-not-head_ok c =
    let a = c.args in
    let e = not-true c.head_ok.result c.if-not-head_ok.true-raw in
    let h = sym c.head_in-h.ensures in
    subst (λ (r : ℕ). Called (ByStep (record { kind = a.kind; a = a.a; b = a.b })) a.state.now r a.state.now) (sym c.refused-then-not-head_ok.ensures)
    (no_desk c.if-state-lt-DESK_BYTES.false (bad-head a.state.now _ h c.if-h-eq0.false (sym c.head_ok.ensures ∙ e)))
