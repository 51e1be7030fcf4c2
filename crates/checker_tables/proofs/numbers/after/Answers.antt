use mathlib.Core.Path.{ap, ap₂, ◌∙◌}
use Prim.Native.Nat.{ℕ, ◌<◌}
use native.Mathlib.Omega.{arith}
use Rattle.checker_account.proofs.EntryLaws.{meaning-lt, group-numbered}
use Rattle.checker_account.specs.Tables.{numbered, meaning_in, group_in, meanings}
use Rattle.checker_tables.proofs.MeaningLaws.{lost-created}
use Rattle.checker_tables.proofs.NumberLaws.{lost-lt}
use Rattle.checker_tables.specs.Search.{lost}
use Rattle.checker_tables.proofs.numbers.after.Goals as goal

pub numbered-requires : goal.numbered-requires
numbered-requires c =
    let e = c.args.e in
    let m = c.lose-m.ensures ∙ ap (λ (j : ℕ). lost j 0) c.meaning.ensures in
    record { m_lt_meanings = omega (arith, m, lost-lt (meaning_in e) 0 (meaning-lt e)); g_le_late_group = omega (arith, c.group.ensures, c.requires) }

pub returns : goal.returns
returns c =
    let e = c.args.e in
    let r = c.numbered.ensures in
    let m = c.lose-m.ensures ∙ ap (λ (j : ℕ). lost j 0) c.meaning.ensures in
    let l : c.lose-m.result < meanings = omega (arith, m, lost-lt (meaning_in e) 0 (meaning-lt e)) in record { value = r ∙ ap₂ numbered (m ∙ lost-created (meaning_in e)) c.group.ensures; result_value = ap group_in r ∙ group-numbered _ c.group.result l ∙ c.group.ensures }
