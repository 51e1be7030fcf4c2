-- What the code's tests say of an opening that resets.
use Prim.Native.Nat.{ℕ, ◌+◌}
use mathlib.Core.Path.{◌≡◌, refl}
use mathlib.Core.Bool.{Bool, true, false, not, ◌&&◌, cond}
use mathlib.Core.List.{List}
use lib.Dec.{eqb}
use lib.ListN.{get_or}
use lib.Bits.{bit_or}
use Rattle.checker_account.specs.Tables.{base, inside_ends_lem, restarted}
use Rattle.checker_tables.specs.Search.{resets_if}

-- what the body of a sandbox ends in
pub inside-if : (reset : Bool) (p : ℕ) (opened t : List ℕ) (s b m q : ℕ)
    → cond (reset && eqb s p) (get_or opened (base b m + 0) 0) (get_or t (base b m + q) 0) ≡ inside_ends_lem (resets_if reset p opened) t s b m q
inside-if false p opened t s b m q = refl
inside-if true p opened t s b m q = refl

-- the states after the opening of a policy, which was open or not
pub opened-if : (local same : Bool) (v w : ℕ)
    → cond same (bit_or (restarted local v) w) 0
    ≡ cond same (bit_or (restarted (local && (same && not false)) v) (restarted (local && (same && not true)) w)) 0
opened-if false false v w = refl
opened-if false true v w = refl
opened-if true false v w = refl
opened-if true true v w = refl
