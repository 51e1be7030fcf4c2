use mathlib.Core.Path.{ap, ap₂, ◌∙◌}
use Prim.Native.Nat.{ℕ, ◌+◌, ◌<◌}
use native.Mathlib.Omega.{arith}
use Rattle.checker_account.proofs.EntryLaws.{meaning-lt, group-numbered}
use Rattle.checker_account.specs.Tables.{numbered, meaning_in, group_in, group_forgotten_lem, meanings}
use Rattle.checker_tables.proofs.MeaningLaws.{lost-name}
use Rattle.checker_tables.proofs.NumberLaws.{lost-lt}
use Rattle.checker_tables.specs.Search.{lost}
use Rattle.checker_tables.proofs.numbers.forgotten.Goals as goal

pub numbered-requires : goal.numbered-requires
numbered-requires c =
    let a = c.args in
    let m = meaning_in a.e in
    let h = c.lose-m.ensures ∙ ap (λ (j : ℕ). lost j (a.n + 1)) c.meaning.ensures in
    let g = c.group_forgotten-g.ensures.upper_bound in
    record { m_lt_meanings = omega (arith, h, lost-lt m (a.n + 1) (meaning-lt a.e)); g_le_late_group = omega (arith, g, c.group.ensures, c.requires.e_bound) }

pub returns : goal.returns
returns c =
    let a = c.args in
    let m = meaning_in a.e in
    let r = c.numbered.ensures in
    let h = c.lose-m.ensures ∙ ap (λ (j : ℕ). lost j (a.n + 1)) c.meaning.ensures in
    let g = c.group_forgotten-g.ensures in
    let l : c.lose-m.result < meanings = omega (arith, h, lost-lt m (a.n + 1) (meaning-lt a.e)) in
    let f = ap group_in r ∙ group-numbered _ c.group_forgotten-g.result l in record { value = r ∙ ap₂ numbered (h ∙ lost-name m a.n) (g.value ∙ ap (λ (j : ℕ). group_forgotten_lem j a.n) c.group.ensures); result_bound = omega (arith, f, g.upper_bound, c.group.ensures) }
