-- `last_not_above` meets its contract.
use Prim.Native.Nat.{ℕ, ◌-◌, ◌+◌, ◌<◌}
use mathlib.Core.Bool.{Bool, true, false}
use mathlib.Core.List.{List}
use mathlib.Core.Path.{◌≡◌, refl, sym, subst}
use lib.Dec.{leb}
use lib.ListN.{length, get_or}
use native.Mathlib.Omega.{arith}
use borrow.Author.Tests.{leb-true, leb-false}
use Rattle.monitor_sets.specs.Created.{highest_ok}
use Rattle.monitor_sets.specs.Code.{rises}
use Rattle.monitor_sets.proofs.CreatedLaws.{last-most}
use Rattle.monitor_sets.proofs.HighestLaws.{highest-none, highest-above, highest-all}
use Rattle.monitor_sets.proofs.created.last_not_above.Goals as goal

-- the last number is above it, or it is not
go : (l : List ℕ) (highest : ℕ) → 0 < length l → rises l (length l - 1) ≡ true → (b : Bool)
    → leb (get_or l (length l - 1) 0) highest ≡ b → b ≡ highest_ok highest (length l) l
go l highest h up true e =
    let m = leb-true (get_or l (length l - 1) 0) highest e in
    sym (highest-all highest l (length l) (omega arith) (λ i k. let w = last-most l up i k in omega (arith, w, m)))
go l highest h up false e =
    let k : length l - 1 + 1 ≡ length l = omega arith in
    sym (subst (λ (m : ℕ). highest_ok highest m l ≡ false) k (highest-above highest l (length l - 1) (omega arith) (leb-false _ _ e)))

pub returns-in-empty : goal.returns-in-empty
returns-in-empty c =
    let a = c.args in
    let e : length a.live.now ≡ 0 = omega arith in
    subst (λ (m : ℕ). true ≡ highest_ok a.highest m a.live.now) (sym e) (highest-none a.highest a.live.now)

pub returns-in-len1-up : goal.returns-in-len1-up
returns-in-len1-up c =
    let a = c.args in
    let l = a.live.now in
    go l a.highest (omega arith) c.requires (leb (get_or l (length l - 1) 0) a.highest) refl
