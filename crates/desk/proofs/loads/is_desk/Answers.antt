use Rattle.usage.proofs.Logic.{not-true, not-false}
use Rattle.desk.proofs.StepLaws.{head-parts, listed-parts}
use Rattle.desk.proofs.LoadLaws.{desk-none, desk-head, desk-rows, desk-sound, rows_on, rows-off}
use mathlib.Core.Path.{sym, ◌∙◌}
use Rattle.desk.proofs.loads.is_desk.Goals as goal
use Rattle.desk.proofs.loads.is_desk.Goals.{then-is_listed+else-not-rows_fit, else-is_listed}

-- src/loads.rt:66:9
pub returns-then-h-eq0 : goal.returns-then-h-eq0
returns-then-h-eq0 c = desk-none c.args.b.now c.args.h c.if-h-eq0.true

-- src/loads.rt:69:9
pub returns-then-not-head_ok : goal.returns-then-not-head_ok
returns-then-not-head_ok c =
    let a = c.args in
    let p = c.requires in
    let o = c.head_ok in
    desk-head a.b.now a.h c.if-h-eq0.false (sym o.ensures ∙ not-true o.result c.if-not-head_ok.true-raw)

-- src/loads.rt:72:13
pub rows_fit-requires : goal.rows_fit-requires
rows_fit-requires c =
    let a = c.args in
    let p = c.requires in
    let o = c.head_ok in
    let k = c.is_listed in
    record { desk_bytes_in_bounds = p; nodes_le_most_nodes = (head-parts a.h (sym o.ensures ∙ not-false o.result c.if-not-head_ok.false-raw)).nodes; positions_le_most_positions = (listed-parts a.h (sym k.ensures ∙ c.if-is_listed.true)).few }

-- src/loads.rt:73:13
pub returns-then-not-rows_fit : goal.returns-then-not-rows_fit
returns-then-not-rows_fit c =
    let a = c.args in
    let p = c.requires in
    let f = c.rows_fit in
    let k = c.is_listed in
    desk-rows a.b.now a.h c.if-h-eq0.false (sym k.ensures ∙ c.if-is_listed.true) (sym f.ensures ∙ not-true f.result c.if-not-rows_fit.true-raw)

-- src/loads.rt:76:5
pub is_sound-requires : goal.is_sound-requires
is_sound-requires c =
    let a = c.args in
    let p = c.requires in
    let o = c.head_ok in
    record { desk_bytes_in_bounds = p; edges_le_most_edges = (head-parts a.h (sym o.ensures ∙ not-false o.result c.if-not-head_ok.false-raw)).edges }

-- src/loads.rt:61:1
pub returns : goal.returns
returns c =
    let a = c.args in
    let p = c.requires in
    let o = c.head_ok in
    let k = c.is_listed in
    c.is_sound.ensures
    ∙ desk-sound a.b.now a.h c.if-h-eq0.false (sym o.ensures ∙ not-false o.result c.if-not-head_ok.false-raw)
    (elim c.if-is_listed.branch [
      | then-is_listed+else-not-rows_fit w ↦ rows_on a.b.now a.h (sym k.ensures ∙ w.if-is_listed.true) (sym w.rows_fit.ensures ∙ w.if-not-rows_fit.false)
      | else-is_listed w ↦ rows-off a.b.now a.h (sym k.ensures ∙ w.if-is_listed.false)
    ])
