-- What is not closed: the counts of the openings of each policy, and their order.
use Rattle.std.specs.Prelude.{ℕ, ◌+◌, ◌-◌, Bool, ◌&&◌, List, eqb, get_or, set, replicate}
use Rattle.usage.specs.Limits.{policies, most_unclosed}
unfoldable pub use Rattle.monitor_sets.specs.Order.{stack_in, agree_below, order_ok_lem}
use Rattle.monitor_state.specs.declared.Unclosed.{Unclosed}

-- "The state starts with .. nothing open"
unfoldable pub start_unclosed : Unclosed
start_unclosed = record { counts = replicate policies 0; order = replicate most_unclosed 0; depth = 0 }

-- the openings of p that are not closed
abbrev pub openings_of : Unclosed → ℕ → ℕ
openings_of u p = get_or u.counts p 0

-- the unclosed openings, the newest first
abbrev pub remembered : Unclosed → List ℕ
remembered u = stack_in u.depth u.order

-- "the policy opened last, among those not yet closed"
abbrev pub last_opened : Unclosed → ℕ
last_opened u = get_or u.order (u.depth - 1) 0

-- "42 also refuses an order longer than 64 or one that disagrees with the counts", so no policy is above 64 openings
unfoldable pub unclosed_ok : Unclosed → Bool
unclosed_ok u = order_ok_lem u.depth u.order u.counts

-- whether an opening of p puts its instances back: "At an opening of a policy that is not open, all its instances go back to state 0. A
-- further opening of a policy already open resets nothing", where the sheet is local (02, L7)
abbrev pub anew : Bool → Unclosed → ℕ → Bool
anew local u p = local && eqb (openings_of u p) 0

-- p is opened
unfoldable pub with_opening : Unclosed → ℕ → Unclosed
with_opening u p =
    record { counts = set u.counts p (openings_of u p + 1); order = set u.order u.depth p; depth = u.depth + 1 }

-- p is closed; what the order has beyond its depth counts for nothing
unfoldable pub with_closing : Unclosed → ℕ → Unclosed
with_closing u p = record { counts = set u.counts p (openings_of u p - 1); order = u.order; depth = u.depth - 1 }
