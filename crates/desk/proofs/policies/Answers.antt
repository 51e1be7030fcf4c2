use mathlib.Core.Path.{subst}
use Rattle.usage.proofs.Logic.{not-true, not-false}
use Rattle.desk.specs.Desk.{is_busy_lem}
use Rattle.desk.specs.Calls.{Called, too_short, no_desk, ByPolicies}
use Rattle.desk.proofs.LoadLaws.{no-desk-of, desk-of, desk-by, policies_busy}
use mathlib.Core.Path.{sym, ap, ◌∙◌}
use Prim.Native.Nat.{ℕ}
use Rattle.desk.proofs.policies.Goals as goal

-- src/lib.rt:52:9
pub returns-then-state-lt-DESK_BYTES : goal.returns-then-state-lt-DESK_BYTES
returns-then-state-lt-DESK_BYTES c =
    let a = c.args in
    subst (λ (r : ℕ). Called (ByPolicies a.text.now) a.state.now r a.state.now) (sym c.refused.ensures) (too_short c.if-state-lt-DESK_BYTES.true)

-- src/lib.rt:56:9
pub returns-then-not-is_desk : goal.returns-then-not-is_desk
returns-then-not-is_desk c =
    let a = c.args in
    let d = c.is_desk in
    subst (λ (r : ℕ). Called (ByPolicies a.text.now) a.state.now r a.state.now) (sym c.refused-then-not-is_desk.ensures)
    (no_desk c.if-state-lt-DESK_BYTES.false (no-desk-of a.state.now _ (sym c.head_in-h.ensures) (sym d.ensures ∙ not-true d.result c.if-not-is_desk.true-raw)))

-- src/lib.rt:59:9
pub returns-then-is_busy : goal.returns-then-is_busy
returns-then-is_busy c =
    let a = c.args in
    let d = c.is_desk in
    let h = sym c.head_in-h.ensures in
    subst (λ (r : ℕ). Called (ByPolicies a.text.now) a.state.now r a.state.now) (sym c.refused-then-is_busy.ensures)
    (policies_busy a.text.now a.state.now c.if-state-lt-DESK_BYTES.false
    (desk-of a.state.now _ h (sym d.ensures ∙ not-false d.result c.if-not-is_desk.false-raw))
    (ap is_busy_lem (sym (desk-by a.state.now _ h)) ∙ sym (c.is_busy.ensures a.state.now) ∙ c.if-is_busy.true))

-- src/lib.rt:61:5
pub load_policies-requires : goal.load_policies-requires
load_policies-requires c =
    let a = c.args in
    let d = c.is_desk in
    let h = sym c.head_in-h.ensures in record { desk_bytes_in_bounds = c.if-state-lt-DESK_BYTES.false; is_desk = desk-of a.state.now _ h (sym d.ensures ∙ not-false d.result c.if-not-is_desk.false-raw); is_free = ap is_busy_lem (sym (desk-by a.state.now _ h)) ∙ sym (c.is_busy.ensures a.state.now) ∙ c.if-is_busy.false }
