-- The choices of watched resources by numbers, as a search goes through them: 17 of one, 290 of two, row by row.
use Rattle.std.specs.Prelude.{ℕ, suc, ◌*◌, ◌/◌, ◌%◌, Bool, true, false, cond, eqb}
use Rattle.checker_account.specs.Account.{watched, watched_too}
use Rattle.checker_account.specs.declared.Resources.{Resources}
use Rattle.checker_account.specs.Tables.{one_resource, two_resources}

-- the resources up to 16, and two of them
abbrev pub single_count : ℕ
single_count = suc watched

abbrev pub grid_count : ℕ
grid_count = single_count * single_count

-- of one, or of two for a pair policy
abbrev pub choice_count : Bool → ℕ
choice_count false = single_count
choice_count true = suc grid_count

unfoldable pub choice_at : Bool → ℕ → Resources
choice_at false i = one_resource i
choice_at true i =
    cond (eqb i grid_count) (two_resources watched watched_too) (two_resources (i / single_count) (i % single_count))
