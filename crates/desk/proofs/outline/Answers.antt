use mathlib.Core.Path.{subst}
use Rattle.usage.proofs.Logic.{not-true, not-false}
use Rattle.desk.specs.Desk.{is_busy_lem, LoadsOutline}
use Rattle.desk.specs.Calls.{Called, too_short, no_desk, called, ByOutline, loaded}
use Rattle.desk.proofs.CallLaws.{nothing-loaded}
use Rattle.desk.proofs.LoadLaws.{no-desk-of, loaded-desk}
use Rattle.desk.proofs.OutlineLoadLaws.{outline_busy}
use mathlib.Core.Path.{refl, sym, ap, ◌∙◌}
use Prim.Native.Nat.{ℕ}
use Rattle.desk.proofs.outline.Goals as goal

-- src/lib.rt:72:9
pub returns-then-state-lt-DESK_BYTES : goal.returns-then-state-lt-DESK_BYTES
returns-then-state-lt-DESK_BYTES c =
    let a = c.args in
    subst (λ (r : ℕ). Called (ByOutline a.text.now) a.state.now r a.state.now) (sym c.refused.ensures) (too_short c.if-state-lt-DESK_BYTES.true)

-- src/lib.rt:76:9
pub returns-then-not-is_desk : goal.returns-then-not-is_desk
returns-then-not-is_desk c =
    let a = c.args in
    let d = c.is_desk in
    subst (λ (r : ℕ). Called (ByOutline a.text.now) a.state.now r a.state.now) (sym c.refused-then-not-is_desk.ensures)
    (no_desk c.if-state-lt-DESK_BYTES.false (no-desk-of a.state.now _ (sym c.head_in-h.ensures) (sym d.ensures ∙ not-true d.result c.if-not-is_desk.true-raw)))

-- src/lib.rt:79:9
pub returns-then-h-eq0 : goal.returns-then-h-eq0
returns-then-h-eq0 c =
    let a = c.args in
    subst (λ (r : ℕ). Called (ByOutline a.text.now) a.state.now r a.state.now) (sym c.refused-then-h-eq0.ensures)
    (called c.if-state-lt-DESK_BYTES.false (nothing-loaded a.state.now _ (sym c.head_in-h.ensures) c.if-h-eq0.true) (loaded LoadsOutline.no_policies) refl)

-- src/lib.rt:82:9
pub returns-then-is_busy : goal.returns-then-is_busy
returns-then-is_busy c =
    let a = c.args in
    let d = c.is_desk in
    let k = c.head_in-h in
    let q = loaded-desk a.state.now k.result (sym k.ensures) c.if-h-eq0.false (sym d.ensures ∙ not-false d.result c.if-not-is_desk.false-raw) in
    subst (λ (r : ℕ). Called (ByOutline a.text.now) a.state.now r a.state.now) (sym c.refused-then-is_busy.ensures)
    (outline_busy a.text.now a.state.now k.result c.if-state-lt-DESK_BYTES.false q.0
    (ap is_busy_lem (sym q.1) ∙ sym (c.is_busy.ensures a.state.now) ∙ c.if-is_busy.true))

-- src/lib.rt:84:5
pub load_outline-requires : goal.load_outline-requires
load_outline-requires c =
    let a = c.args in
    let d = c.is_desk in
    let k = c.head_in-h in
    let q = loaded-desk a.state.now k.result (sym k.ensures) c.if-h-eq0.false (sym d.ensures ∙ not-false d.result c.if-not-is_desk.false-raw) in record { desk_bytes_in_bounds = c.if-state-lt-DESK_BYTES.false; head_is_ok = q.2; policies_loaded = c.if-h-eq0.false; edges_valid = q.3; is_loaded = q.0; is_free = ap is_busy_lem (sym q.1) ∙ sym (c.is_busy.ensures a.state.now) ∙ c.if-is_busy.false }
