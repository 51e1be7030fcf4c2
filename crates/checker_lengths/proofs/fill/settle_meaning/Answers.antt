use mathlib.Core.Path.{◌∙◌, subst}
use Prim.Native.Nat.{ℕ}
use Rattle.outline_nodes.specs.Said.{said_by}
use Rattle.checker_tables.proofs.EnterLaws.{come-to-in}
use Rattle.checker_lengths.specs.Code.{Pass}
use Rattle.checker_lengths.specs.Filling.{StatesSettled}
use Rattle.checker_lengths.proofs.fill.settle_meaning.Goals as goal

pub returns : goal.returns
returns c =
    let a = c.args in
    let p = c.requires in
    let f = said_by a.r.form in
    let s = c.settle_states in
    subst (λ (v : ℕ). Pass a.r.watch a.r.rows.now a.k f (λ y. StatesSettled a.r.watch a.r.rows.now f y a.k a.o a.m v) a.t.now s.new.t s.result)
    (c.come_to.ensures ∙ come-to-in a.u.now a.k a.o a.m p.k_lt_most_nodes p.m_lt_meanings) s.ensures
