use mathlib.Core.Path.{ap, ◌∙◌}
use Prim.Native.Nat.{ℕ, ◌+◌, ◌-◌, ◌<◌}
use native.Mathlib.Omega.{arith}
use Rattle.checker_account.proofs.EntryLaws.{meaning-lt, group-numbered}
use Rattle.checker_account.specs.Tables.{numbered, meaning_in, group_in, meanings}
use Rattle.checker_tables.proofs.MeaningLaws.{lost-name}
use Rattle.checker_tables.proofs.NumberLaws.{lost-lt}
use Rattle.checker_tables.specs.Search.{lost}
use Rattle.checker_tables.proofs.numbers.second_named.Goals as goal

pub numbered-requires : goal.numbered-requires
numbered-requires c =
    let a = c.args in
    let h = c.lose-m.ensures ∙ ap (λ (j : ℕ). lost j (a.n + 1)) c.meaning.ensures in
    record { m_lt_meanings = omega (arith, h, lost-lt (meaning_in a.e) (a.n + 1) (meaning-lt a.e)); g_le_late_group = omega arith }

pub returns : goal.returns
returns c =
    let a = c.args in
    let m = meaning_in a.e in
    let r = c.numbered.ensures in
    let h = c.lose-m.ensures ∙ ap (λ (j : ℕ). lost j (a.n + 1)) c.meaning.ensures in
    let l : c.lose-m.result < meanings = omega (arith, h, lost-lt m (a.n + 1) (meaning-lt a.e)) in
    let f = ap group_in r ∙ group-numbered _ (4 - a.n) l in
    record { value = r ∙ ap (λ (j : ℕ). numbered j (4 - a.n)) (h ∙ lost-name m a.n); result_bound = omega (arith, f) }
