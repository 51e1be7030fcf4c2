-- `all_stay` meets its contract: the four tests one after the other.
use mathlib.Core.Bool.{Bool, true, false, ◌&&◌}
use mathlib.Core.Path.{◌≡◌, refl, sym, ap, ◌∙◌}
use Rattle.automaton.specs.Code.{stays_by}
use Rattle.monitor_pairs.specs.Code.{stays_all}
use Rattle.monitor_pairs.proofs.gathering.all_stay.Goals as goal
use Rattle.monitor_pairs.proofs.gathering.all_stay.Goals.{then-stays, else-stays, then-stays-2, else-stays-2}

four : (a b c d : Bool) → (((a && b) && c) && d) ≡ (a && (b && (c && d)))
four true true true d = refl
four true true false d = refl
four true false c d = refl
four false b c d = refl

-- a test is made where those before it hold
also : {b v t : Bool} → b ≡ v → (u : Bool) → b ≡ t → (t && u) ≡ (v && u)
also e u h = ap (λ x. x && u) (sym h ∙ e)

pub returns-then-stays-3 : goal.returns-then-stays-3
unfolding stays_all
returns-then-stays-3 c =
    let w = c.args.ways in
    let one : c.if-stays.value ≡ (stays_by w.neither && stays_by w.first) =
    elim c.if-stays.branch [
      | then-stays u ↦ u.value-is ∙ u.stays-then-stays.ensures ∙ also c.stays.ensures (stays_by w.first) u.if-stays.true
      | else-stays u ↦ u.value-is ∙ u.if-stays.false ∙ also c.stays.ensures (stays_by w.first) u.if-stays.false
    ] in
    let two : c.if-stays-2.value ≡ ((stays_by w.neither && stays_by w.first) && stays_by w.second) =
    elim c.if-stays-2.branch [
      | then-stays-2 u ↦ u.value-is ∙ u.stays-then-stays-2.ensures ∙ also one (stays_by w.second) u.if-stays-2.true
      | else-stays-2 u ↦ u.value-is ∙ u.if-stays-2.false ∙ also one (stays_by w.second) u.if-stays-2.false
    ] in
    c.stays-then-stays-3.ensures ∙ also two (stays_by w.both) c.if-stays-3.true ∙ four (stays_by w.neither) (stays_by w.first) (stays_by w.second) (stays_by w.both)

pub returns-else-stays-3 : goal.returns-else-stays-3
unfolding stays_all
returns-else-stays-3 c =
    let w = c.args.ways in
    let one : c.if-stays.value ≡ (stays_by w.neither && stays_by w.first) =
    elim c.if-stays.branch [
      | then-stays u ↦ u.value-is ∙ u.stays-then-stays.ensures ∙ also c.stays.ensures (stays_by w.first) u.if-stays.true
      | else-stays u ↦ u.value-is ∙ u.if-stays.false ∙ also c.stays.ensures (stays_by w.first) u.if-stays.false
    ] in
    let two : c.if-stays-2.value ≡ ((stays_by w.neither && stays_by w.first) && stays_by w.second) =
    elim c.if-stays-2.branch [
      | then-stays-2 u ↦ u.value-is ∙ u.stays-then-stays-2.ensures ∙ also one (stays_by w.second) u.if-stays-2.true
      | else-stays-2 u ↦ u.value-is ∙ u.if-stays-2.false ∙ also one (stays_by w.second) u.if-stays-2.false
    ] in
    c.if-stays-3.false ∙ also two (stays_by w.both) c.if-stays-3.false ∙ four (stays_by w.neither) (stays_by w.first) (stays_by w.second) (stays_by w.both)
