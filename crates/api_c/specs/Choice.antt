-- The choice of past as a number that a caller hands over with the edges: 0 where the whole past counts, 1 where only that since the
-- opening does (02, L7). A number that is neither is 41, "a table lent to be used that .. no accepted sheet gives".
use Rattle.std.specs.Prelude.{ℕ, Bool, eqb, leb}

abbrev pub is_choice : ℕ → Bool
is_choice n = leb n 1

abbrev pub choice_of : ℕ → Bool
choice_of n = eqb n 1
