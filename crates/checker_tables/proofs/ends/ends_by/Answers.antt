use mathlib.Core.Path.{ap, subst}
use Rattle.usage.proofs.Logic.{and_left}
use mathlib.Core.List.{[], ◌∷◌}
use Prim.Native.Nat.{ℕ, ◌+◌, ◌^◌}
use mathlib.Core.Bool.{cond, ◌&&◌}
use lib.Dec.{eqb}
use lib.ListN.{get_or}
use Rattle.usage.specs.Limits.{states}
use Rattle.checker_account.specs.Tables.{base, kept_in, row_on, rows_in, inside_ends_lem, ends_by_lem}
use Rattle.checker_tables.specs.ByState.{ByState}
use Rattle.checker_tables.proofs.ByStateLaws.{by_as, singles}
use Rattle.checker_tables.proofs.ResetLaws.{inside-if}
use Rattle.checker_tables.specs.Search.{resets_if}
use Rattle.checker_tables.proofs.ends.ends_by.Goals as goal
use Rattle.checker_tables.proofs.FitLaws.{small-rule}
use Rattle.outline_nodes.specs.Said.{said_by}

pub sequence_ends-requires : goal.sequence_ends-requires
sequence_ends-requires c =
    let p = c.requires in
    let s = rw c.in-Sequence.is at (small-rule (said_by c.args.s.form) c.args.s.form_small) in
    record { a_lt_most_nodes = s.0; b_lt_most_nodes = s.1; e_bound = p.e_bound; e_in_bounds = p.e_in_bounds }

pub either_ends-requires : goal.either_ends-requires
either_ends-requires c =
    let p = c.requires in
    let s = rw c.in-Choice.is at (small-rule (said_by c.args.s.form) c.args.s.form_small) in
    record { a_lt_most_nodes = s.0; b_lt_most_nodes = s.1; e_bound = p.e_bound; e_in_bounds = p.e_in_bounds }

pub held-requires : goal.held-requires
held-requires c =
    let p = c.requires in
    let s = rw c.in-Loop.is at (small-rule (said_by c.args.s.form) c.args.s.form_small) in
    record { k_lt_most_nodes = s; e_bound = p.e_bound; e_in_bounds = p.e_in_bounds }

pub held-requires-in-Back : goal.held-requires-in-Back
held-requires-in-Back c =
    let p = c.requires in
    let s = rw c.in-Back.is at (small-rule (said_by c.args.s.form) c.args.s.form_small) in
    record { k_lt_most_nodes = s; e_bound = p.e_bound; e_in_bounds = p.e_in_bounds }

pub fresh_ends-requires : goal.fresh_ends-requires
fresh_ends-requires c =
    let p = c.requires in
    let s = rw c.in-Fresh.is at (small-rule (said_by c.args.s.form) c.args.s.form_small) in
    record { n_lt_no_name = s.0; b_lt_most_nodes = s.1; e_bound = p.e_bound; e_in_bounds = p.e_in_bounds }

pub inside_ends-requires : goal.inside_ends-requires
inside_ends-requires c =
    let p = c.requires in
    let s = rw c.in-Sandbox.is at (small-rule (said_by c.args.s.form) c.args.s.form_small) in
    record { b_lt_most_nodes = s; e_bound = p.e_bound; e_in_bounds = p.e_in_bounds; opened_len = λ d. p.opened_len (and_left _ _ d) }

pub returns-in-End : goal.returns-in-End
unfolding ends_by_lem
returns-in-End c =
    let a = c.args in
    rw c.in-End.is
    (by_as (λ q. kept_in a.e (2 ^ q)) (λ q. kept_in a.e (get_or (1 ∷ 2 ∷ 4 ∷ 8 ∷ 16 ∷ 32 ∷ 64 ∷ 128 ∷ []) q 0)) c.keep_in.result
    c.keep_in.ensures (λ q l. ap (kept_in a.e) (singles q l)))

pub returns-in-OnStatic : goal.returns-in-OnStatic
unfolding ends_by_lem
returns-in-OnStatic c =
    rw c.in-OnStatic.is c.event_ends.ensures

pub returns-in-OnName : goal.returns-in-OnName
unfolding ends_by_lem
returns-in-OnName c =
    let a = c.args in
    rw c.in-OnName.is
    (subst (λ (r : ℕ). ByState states (λ q. kept_in a.e (row_on (rows_in a.s.rows.now) a.s.resources a.s.node r q)) c.event_ends-in-OnName.result)
    c.meant-r.ensures c.event_ends-in-OnName.ensures)

pub returns-in-Sequence : goal.returns-in-Sequence
unfolding ends_by_lem
returns-in-Sequence c =
    rw c.in-Sequence.is c.sequence_ends.ensures

pub returns-in-Choice : goal.returns-in-Choice
unfolding ends_by_lem
returns-in-Choice c =
    rw c.in-Choice.is c.either_ends.ensures

pub returns-in-Loop : goal.returns-in-Loop
unfolding ends_by_lem
returns-in-Loop c =
    rw c.in-Loop.is c.held.ensures

pub returns-in-Back : goal.returns-in-Back
unfolding ends_by_lem
returns-in-Back c =
    rw c.in-Back.is c.held-in-Back.ensures

pub returns-in-Fresh : goal.returns-in-Fresh
unfolding ends_by_lem
returns-in-Fresh c =
    rw c.in-Fresh.is c.fresh_ends.ensures

pub returns-in-Sandbox : goal.returns-in-Sandbox
unfolding ends_by_lem
returns-in-Sandbox c =
    let a = c.args in
    let s = c.in-Sandbox.policy in
    let b = c.in-Sandbox.body in
    rw c.in-Sandbox.is
    (by_as (λ q. inside_ends_lem (resets_if a.w.local a.w.policy a.opened.now) a.t.now s b a.e q)
    (λ q. cond (a.w.local && eqb s a.w.policy) (get_or a.opened.now (base b a.e + 0) 0) (get_or a.t.now (base b
    a.e + q) 0))
    c.inside_ends.result c.inside_ends.ensures
    (λ q l. inside-if a.w.local a.w.policy a.opened.now a.t.now s b a.e q))
