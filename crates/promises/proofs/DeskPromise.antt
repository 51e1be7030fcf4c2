-- The routine desk: the promise over its calls, and demand 3 there.
use Prim.Native.Nat.{ℕ, ◌<◌, ◌≤◌}
use mathlib.Core.Path.{◌≡◌, refl, sym, ap, subst, ◌∙◌}
use mathlib.Core.Bool.{Bool, true, false}
use mathlib.Core.Option.{none, some}
use mathlib.Core.List.{List, flatten}
use native.Mathlib.Omega.{arith}
use lib.ListN.{length}
use Rattle.usage.specs.declared.Edge.{Edge}
use Rattle.usage.specs.declared.Node.{Node}
use Rattle.usage.specs.declared.RawStep.{RawStep}
use Rattle.usage.specs.Limits.{node_places}
use Rattle.usage.specs.Answers.{Verdict, allowed, violated, refused}
use Rattle.usage.specs.Check.{Leaves, Checked, accepts}
use Rattle.usage.specs.Tables.{edges_of, nodes_of}
use Rattle.usage.proofs.Logic.{none-some, false-true}
use Rattle.usage.proofs.TableLaws.{decides-node-table}
use Rattle.sheet_reader.proofs.TableLaws.{outline-valid}
use Rattle.monitor_state.specs.Judge.{start_state}
use Rattle.checker.proofs.AcceptedLaws.{never_halted}
use Rattle.desk_positions.specs.Positions.{start_positions}
use Rattle.desk.specs.Desk as desk
use Rattle.desk.specs.Desk.{Desk, is_busy_lem, Reached, LoadsPolicies, LoadsOutline, has_outline, with_outline}
use Rattle.desk.specs.Layout.{desk_bytes}
use Rattle.desk.specs.State.{desk_of}
use Rattle.desk.specs.Calls.{Given, desk_code, plain, is_refused, Called, too_short, no_desk, called, ByPolicies, ByOutline, ByStep, replied}
use Rattle.desk.specs.Calls.{LeavesBytes}
use Rattle.desk.proofs.DeskLaws.{reached-fit}
use Rattle.desk.proofs.SequenceLaws.{Holding, encodes-desk, same-desk, written-holds, calls-promise}
use Rattle.promises.specs.Demands.{refused_by, BytesRefuse, RunsFree, RoutineDesk}

-- no other verdict has the number 0
zero-allowed : (v : Verdict) → desk_code (plain v) ≡ 0 → v ≡ allowed
zero-allowed allowed e = refl
zero-allowed (violated p) e = absurd (omega arith)
zero-allowed (refused n) e = absurd (omega arith)

none_left : {local : Bool} {es : List Edge} {ns : List Node} → Checked local es ns allowed → (p : ℕ) → Leaves local es ns p → ⊥
none_left (accepts f) = f

runs-free : (text b b' : List ℕ) (r : ℕ) → Holding b → Called (ByOutline text) b r b' → r ≡ 0 → RunsFree b'
runs-free text b b' r h (too_short l) q = absurd (omega arith)
runs-free text b b' r h (no_desk l e) q = absurd (omega arith)
runs-free text b b' r h (called {d = d₀} l f (ByOutline.loaded LoadsOutline.no_policies) leaves) q = absurd (omega arith)
runs-free text b b' r h (called {d = d₀} l f (ByOutline.loaded (LoadsOutline.busy e)) leaves) q = absurd (omega arith)
runs-free text b b' r h (called {d = d₀} l f (ByOutline.loaded (LoadsOutline.no_sheet e g)) leaves) q = absurd (omega arith)
runs-free text b b' r h (called {d = d₀} l f (ByOutline.loaded (LoadsOutline.loads {d} {rows} {v} {m} e g c x)) leaves) q =
    let reached : Reached (some d) = subst Reached (same-desk b h.is f) h.reached in
    let is_allowed : v ≡ allowed = zero-allowed v q in
    let does : LoadsOutline text (some d) (has_outline v) (with_outline d (flatten rows) m) = LoadsOutline.loads {rows = rows} {v = v} {m = m} e g c x in
    let kept : LeavesBytes false b (with_outline d (flatten rows) m) b'
    = subst (λ (w : Verdict). LeavesBytes (is_refused w) b (with_outline d (flatten rows) m) b') is_allowed leaves in
    let (past, o, F) = reached-fit reached in
    let nodes = (decides-node-table (flatten rows)).0 (outline-valid node_places text rows g) in
    record {
      desk = record {
        edges = d.edges;
        local = d.local;
        outline = some record { nodes = flatten rows; summary = m; positions = start_positions (nodes_of (flatten rows)) };
        judge = start_state;
      };
      is = encodes-desk b' (with_outline d (flatten rows) m) kept.1 (desk.by_outline reached does);
      nodes = nodes_of (flatten rows);
      outline = refl;
      never_halted = never_halted d.edges F.edges d.local (nodes_of (flatten rows)) nodes.outline
          (none_left (subst (Checked d.local (edges_of d.edges) (nodes_of (flatten rows))) is_allowed c));
    }

-- ── The desk's own numbers ──

short-40 : (Does : Desk → Given → Desk → Type 0) (b : List ℕ) (r : ℕ) (b' : List ℕ) → Called Does b r b' → length b < desk_bytes
    → (r ≡ refused_by 40) × (b' ≡ b)
short-40 Does b r b' (too_short l) q = (refl, refl)
short-40 Does b r b' (no_desk l e) q = absurd (omega arith)
short-40 Does b r b' (called l f does leaves) q = absurd (omega arith)

none-42 : (Does : Desk → Given → Desk → Type 0) (b : List ℕ) (r : ℕ) (b' : List ℕ) → Called Does b r b' → desk_bytes ≤ length b
    → desk_of b ≡ none → (r ≡ refused_by 42) × (b' ≡ b)
none-42 Does b r b' (too_short l) q e = absurd (omega arith)
none-42 Does b r b' (no_desk l e) q f = (refl, refl)
none-42 Does b r b' (called l f does leaves) q e = none-some (sym e ∙ f)

bytes-refuse : (Does : Desk → Given → Desk → Type 0) → BytesRefuse Does
bytes-refuse Does = record { too_short = short-40 Does; no_desk = none-42 Does }

stepped-50 : (raw : RawStep) (b b' : List ℕ) (d : Desk) {g : Given} {d' : Desk} → desk_of b ≡ some none → desk_of b ≡ some d → ByStep raw d g d'
    → LeavesBytes (is_refused g.verdict) b d' b' → (desk_code g ≡ refused_by 50) × (b' ≡ b)
stepped-50 raw b b' none e f replied leaves = (refl, leaves)
stepped-50 raw b b' (some d) e f replied leaves = none-some (same-desk b e f)

step-50 : (raw : RawStep) (b : List ℕ) (r : ℕ) (b' : List ℕ) → Called (ByStep raw) b r b' → desk_bytes ≤ length b
    → desk_of b ≡ some none → (r ≡ refused_by 50) × (b' ≡ b)
step-50 raw b r b' (too_short l) q e = absurd (omega arith)
step-50 raw b r b' (no_desk l f) q e = none-some (sym f ∙ e)
step-50 raw b r b' (called {d = d} l f does leaves) q e = stepped-50 raw b b' d e f does leaves

outline-51 : (text b : List ℕ) (r : ℕ) (b' : List ℕ) → Called (ByOutline text) b r b' → desk_bytes ≤ length b
    → desk_of b ≡ some none → (r ≡ refused_by 51) × (b' ≡ b)
outline-51 text b r b' (too_short l) q e = absurd (omega arith)
outline-51 text b r b' (no_desk l f) q e = none-some (sym f ∙ e)
outline-51 text b r b' (called l f (ByOutline.loaded LoadsOutline.no_policies) leaves) q e = (refl, leaves)
outline-51 text b r b' (called l f (ByOutline.loaded (LoadsOutline.busy g)) leaves) q e = none-some (same-desk b e f)
outline-51 text b r b' (called l f (ByOutline.loaded (LoadsOutline.no_sheet g h)) leaves) q e = none-some (same-desk b e f)
outline-51 text b r b' (called l f (ByOutline.loaded (LoadsOutline.loads g h c x)) leaves) q e = none-some (same-desk b e f)

policies-52 : (text b : List ℕ) (r : ℕ) (b' : List ℕ) → Called (ByPolicies text) b r b' → desk_bytes ≤ length b
    → (d : Desk) → desk_of b ≡ some d → is_busy_lem d ≡ true → (r ≡ refused_by 52) × (b' ≡ b)
policies-52 text b r b' (too_short l) q d e u = absurd (omega arith)
policies-52 text b r b' (no_desk l f) q d e u = none-some (sym f ∙ e)
policies-52 text b r b' (called l f (ByPolicies.loaded (LoadsPolicies.busy g)) leaves) q d e u = (refl, leaves)
policies-52 text b r b' (called l f (ByPolicies.loaded (LoadsPolicies.no_sheet g h)) leaves) q d e u =
    false-true (sym g ∙ ap is_busy_lem (same-desk b f e) ∙ u)
policies-52 text b r b' (called l f (ByPolicies.loaded (LoadsPolicies.loads g h)) leaves) q d e u =
    false-true (sym g ∙ ap is_busy_lem (same-desk b f e) ∙ u)

outline-52 : (text b : List ℕ) (r : ℕ) (b' : List ℕ) → Called (ByOutline text) b r b' → desk_bytes ≤ length b
    → (d : Desk) → desk_of b ≡ some d → is_busy_lem d ≡ true → (r ≡ refused_by 52) × (b' ≡ b)
outline-52 text b r b' (too_short l) q d e u = absurd (omega arith)
outline-52 text b r b' (no_desk l f) q d e u = none-some (sym f ∙ e)
outline-52 text b r b' (called l f (ByOutline.loaded LoadsOutline.no_policies) leaves) q d e u =
    false-true (ap is_busy_lem (same-desk b f e) ∙ u)
outline-52 text b r b' (called l f (ByOutline.loaded (LoadsOutline.busy g)) leaves) q d e u = (refl, leaves)
outline-52 text b r b' (called l f (ByOutline.loaded (LoadsOutline.no_sheet g h)) leaves) q d e u =
    false-true (sym g ∙ ap is_busy_lem (same-desk b f e) ∙ u)
outline-52 text b r b' (called l f (ByOutline.loaded (LoadsOutline.loads g h c x)) leaves) q d e u =
    false-true (sym g ∙ ap is_busy_lem (same-desk b f e) ∙ u)

pub routine_desk : RoutineDesk
routine_desk = record {
  refuses = record {
    policies_bytes = λ text. bytes-refuse (ByPolicies text);
    outline_bytes = λ text. bytes-refuse (ByOutline text);
    step_bytes = λ raw. bytes-refuse (ByStep raw);
    step_first = step-50;
    outline_first = outline-51;
    policies_busy = policies-52;
    outline_busy = outline-52;
  };
  calls = calls-promise;
  accepted = λ b b' text r w c q. runs-free text b b' r (written-holds w) c q;
}
