-- What a full table holds: the least lengths of the account (checker_account's Least.antt), of those that are 200 or less.
use Rattle.std.specs.Prelude.{ℕ, suc, ◌≤◌, ◌≡◌, Bool, true, false, cond, List, ltb}
use Rattle.std.proofs.Math.Option.{none, some}
use Rattle.usage.specs.declared.Edge.{Edge}
use Rattle.usage.specs.declared.Node.{Node}
use Rattle.usage.specs.Limits.{states, most_shown}
use Rattle.usage.specs.Policy.{EdgesOk}
use Rattle.usage.specs.Valid.{OutlineOk}
use Rattle.checker_account.specs.Account.{watched, Aim, ended, broken}
use Rattle.checker_account.specs.Tables.{one_resource, at, rows_in}
use Rattle.checker_account.specs.Holds.{RowsOk}
use Rattle.checker_account.specs.Least.{Entries}
use Rattle.checker_lengths.specs.declared.WatchOne.{WatchOne}
use Rattle.checker_lengths.specs.Entries.{at_break, aims, entry_of, held}

-- the number of an aim, and of the start in which name w means the watched resource and c tells whether it was created
abbrev pub no_aim : ℕ
no_aim = aims

abbrev pub aim_at : Aim Bool → ℕ
aim_at (ended c q) = cond (ltb q states) (at c q) no_aim
aim_at (broken none) = at_break
aim_at (broken (some last)) = no_aim

abbrev pub meaning_of : ℕ → Bool → ℕ
meaning_of w false = 0
meaning_of w true = suc w

-- the entries that a table holds, of those less than `most`
abbrev pub entries_in : List ℕ → ℕ → Entries ℕ Bool
entries_in t most n o k w c q aim = (held t most (entry_of k o (meaning_of w c) q (aim_at aim)) ≡ n) × (n ≤ most_shown)

abbrev pub watch_of : Bool → ℕ → ℕ → WatchOne
watch_of local p x = record { local = local; policy = p; resource = x }

-- what the tables of a policy and an outline are filled from
pub record Source (es : List Edge) (ns : List Node) (p x : ℕ) (rows : List ℕ) : Type 0 where
  pub edges : EdgesOk es
  pub outline : OutlineOk ns
  pub small : x ≤ watched
  pub moves : RowsOk es ns p (one_resource x) (rows_in rows)
