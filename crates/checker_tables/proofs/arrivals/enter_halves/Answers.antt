use mathlib.Core.Path.{sym, ap}
use mathlib.Core.Bool.{true, false}
use mathlib.Core.List.{[], ◌∷◌}
use Prim.Native.Nat.{ℕ, ◌/◌, ◌%◌}
use Rattle.checker_account.specs.Tables.{◌by◌by◌with◌}
use Rattle.checker_tables.proofs.EnterLaws.{enters-both, enters-as}
use Rattle.checker_account.specs.Tables.{entry_after}
use Rattle.checker_tables.proofs.RuleLaws.{after_same}
use Rattle.checker_tables.proofs.arrivals.enter_halves.Goals as goal

pub returns : goal.returns
returns c =
    let a = c.args in
    let g = a.g in
    let n = c.after in
    let s = c.enter-low in
    let t = c.enter-high in
    let low = g.to by g.opened by entry_after g.meaning false with g.states % 256 in
    let high = g.to by g.opened by entry_after g.meaning true with g.states / 256 in
    enters-both (low ∷ []) (high ∷ []) a.u.now s.new.u t.new.u s.result t.result
    (enters-as (g.to by g.opened by g.meaning with g.states % 256) low a.u.now s.new.u s.result
    (ap (λ (m : ℕ). g.to by g.opened by m with g.states % 256) (sym (after_same g.meaning))) s.ensures)
    (enters-as (g.to by g.opened by n.result with g.states / 256) high s.new.u t.new.u t.result
    (ap (λ (m : ℕ). g.to by g.opened by m with g.states / 256) n.ensures.value) t.ensures)
