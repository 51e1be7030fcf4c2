-- "The state now remembers the order of openings" (02, L6): the policies of the unclosed openings, the oldest first.
use Rattle.std.specs.Prelude.{ℕ, zero, suc, Bool, true, ◌&&◌, List, [], ◌∷◌, eqb, leb, ltb, get_or}
use Rattle.usage.specs.Limits.{policies, most_unclosed}
use Rattle.usage.specs.Past.{occurrences}
use Rattle.usage.specs.Tests.{every}

-- the first n numbers of the order, the newest first; the places beyond them count for nothing
unfoldable pub stack_in : ℕ → List ℕ → List ℕ
stack_in zero order = []
stack_in (suc n) order = get_or order n 0 ∷ stack_in n order

abbrev pub is_policy : ℕ → Bool
is_policy p = ltb p policies

-- each policy below n stands in the stack as often as its count says
unfoldable pub agree_below : List ℕ → List ℕ → ℕ → Bool
agree_below stack unclosed zero = true
agree_below stack unclosed (suc p) = eqb (occurrences p stack) (get_or unclosed p 0) && agree_below stack unclosed p

-- "42 also refuses an order longer than 64 or one that disagrees with the counts": an entry that is no policy disagrees with them
unfoldable pub order_ok_lem : ℕ → List ℕ → List ℕ → Bool
order_ok_lem depth order unclosed =
    leb depth most_unclosed && (every is_policy (stack_in depth order) && agree_below (stack_in depth order) unclosed policies)
