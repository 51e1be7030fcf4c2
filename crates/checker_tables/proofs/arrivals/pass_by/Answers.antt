use mathlib.Core.Path.{sym, ap}
use mathlib.Core.List.{List}
use Rattle.checker_account.specs.declared.Arrival.{Arrival}
use Rattle.checker_tables.proofs.EnterLaws.{enters-as, room_as}
use Rattle.checker_account.specs.Tables.{rows_in, arrivals}
use Rattle.checker_account.specs.Filling.{entered}
use Rattle.checker_account.proofs.GrowsLaws.{grown-self}
use Rattle.checker_tables.proofs.OtherLaws.{no-arrivals}
use Rattle.checker_tables.proofs.arrivals.pass_by.Goals as goal
use Rattle.checker_tables.proofs.FitLaws.{small-rule}
use Rattle.outline_nodes.specs.Said.{said_by}

pub pass_sequence-requires : goal.pass_sequence-requires
pass_sequence-requires c =
    let p = c.requires in
    let s = rw c.in-Sequence.is at (small-rule (said_by c.args.s.form) c.args.s.form_small) in
    record { a_lt_most_nodes = s.0; b_lt_most_nodes = s.1; meaning_bound = p.meaning_bound; meaning_in_bounds = p.meaning_in_bounds; meaning_in_t = p.meaning_in_t; late_group_in_bounds = p.late_group_in_bounds }

pub enter_two-requires : goal.enter_two-requires
enter_two-requires c =
    let p = c.requires in
    let s = rw c.in-Choice.is at (small-rule (said_by c.args.s.form) c.args.s.form_small) in
    record { a_lt_most_nodes = s.0; b_lt_most_nodes = s.1; meaning_bound = p.meaning_bound; meaning_in_bounds = p.meaning_in_bounds }

pub enter-requires : goal.enter-requires
enter-requires c =
    let p = c.requires in
    let s = rw c.in-Loop.is at (small-rule (said_by c.args.s.form) c.args.s.form_small) in
    room_as _ c.onto.result _ c.onto.ensures (record { to_lt_most_nodes = s; meaning_bound = p.meaning_bound; meaning_in_bounds = p.meaning_in_bounds })

pub enter-requires-in-Back : goal.enter-requires-in-Back
enter-requires-in-Back c =
    let p = c.requires in
    let s = rw c.in-Back.is at (small-rule (said_by c.args.s.form) c.args.s.form_small) in
    room_as _ c.onto-in-Back.result _ c.onto-in-Back.ensures (record { to_lt_most_nodes = s; meaning_bound = p.meaning_bound; meaning_in_bounds = p.meaning_in_bounds })

pub pass_fresh-requires : goal.pass_fresh-requires
pass_fresh-requires c =
    let p = c.requires in
    let s = rw c.in-Fresh.is at (small-rule (said_by c.args.s.form) c.args.s.form_small) in
    record { n_lt_no_name = s.0; b_lt_most_nodes = s.1; meaning_bound = p.meaning_bound; meaning_in_bounds = p.meaning_in_bounds }

pub pass_sandbox-requires : goal.pass_sandbox-requires
pass_sandbox-requires c =
    let p = c.requires in
    let s = rw c.in-Sandbox.is at (small-rule (said_by c.args.s.form) c.args.s.form_small) in
    record { b_lt_most_nodes = s; meaning_bound = p.meaning_bound; meaning_in_bounds = p.meaning_in_bounds }

pub returns-in-Sequence : goal.returns-in-Sequence
unfolding arrivals
returns-in-Sequence c =
    rw c.in-Sequence.is c.pass_sequence.ensures

pub returns-in-Choice : goal.returns-in-Choice
unfolding arrivals
returns-in-Choice c =
    rw c.in-Choice.is c.enter_two.ensures

pub returns-in-Loop : goal.returns-in-Loop
unfolding arrivals
returns-in-Loop c =
    let u = c.args.u.now in
    rw c.in-Loop.is
    (enters-as c.onto.result _ u c.enter.new.u c.enter.result c.onto.ensures c.enter.ensures)

pub returns-in-Back : goal.returns-in-Back
unfolding arrivals
returns-in-Back c =
    let u = c.args.u.now in
    rw c.in-Back.is
    (enters-as c.onto-in-Back.result _ u c.enter-in-Back.new.u c.enter-in-Back.result c.onto-in-Back.ensures c.enter-in-Back.ensures)

pub returns-in-Fresh : goal.returns-in-Fresh
unfolding arrivals
returns-in-Fresh c =
    rw c.in-Fresh.is c.pass_fresh.ensures

pub returns-in-Sandbox : goal.returns-in-Sandbox
unfolding arrivals
returns-in-Sandbox c =
    rw c.in-Sandbox.is c.pass_sandbox.ensures

pub returns-in_default : goal.returns-in_default
unfolding entered
returns-in_default c =
    let a = c.args in
    let g = a.from in
    let e = no-arrivals a.w.local (rows_in a.s.rows.now) a.w.policy a.s.resources a.t.now a.s.node g.opened g.meaning g.states
    a.s.form c.in_default.not-Sequence c.in_default.not-Choice c.in_default.not-Loop c.in_default.not-Back c.in_default.not-Fresh c.in_default.not-Sandbox in
    (sym (ap (λ (gs : List Arrival). entered gs a.u.now) e), (sym (grown-self a.u.now), λ w. w))
