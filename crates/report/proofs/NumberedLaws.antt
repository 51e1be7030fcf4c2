-- The numbers of a trace whose fresh resources are numbered 16, 17 and on.
use Prim.Native.Nat.{ℕ, suc, ◌+◌, ◌<◌, ◌≤◌}
use mathlib.Core.Path.{◌≡◌, sym}
use mathlib.Core.Bool.{Bool, true, false}
use mathlib.Core.List.Memᴰ
use mathlib.Core.List.{[], ◌∷◌}
use native.Mathlib.Omega.{arith}
use lib.ListN.{length}
use borrow.Author.Tests.{eq-eqb}
use Rattle.usage.specs.Limits.{statics, create}
use Rattle.usage.specs.Past.{event, opening, closing, retiring, Past, add_if, count, is_create, creates, Created, Numbered}
use Rattle.usage.proofs.Logic.{by_cases}
use Rattle.usage.proofs.PastLaws.{member-event, member-opening, member-closing, member-retiring}

add-few : (b : Bool) (m n : ℕ) → m ≤ n → add_if b m ≤ suc n
add-few true m n h = omega arith
add-few false m n h = omega arith

pub creates-few : (past : Past) → creates past ≤ length past
unfolding count
creates-few [] = omega arith
creates-few (s ∷ past) = add-few (is_create s) (creates past) (length past) (creates-few past)

add_low : (b : Bool) (r m : ℕ) → r < statics + m → r < statics + add_if b m
add_low true r m h = omega arith
add_low false r m h = h

-- what was created has one of as many numbers as there are creates
pub created-low : (past : Past) (r : ℕ) → Numbered past → Created r past → r < statics + creates past
unfolding count
created-low [] r h m = absurd (Memᴰ.not-nil m)
created-low (event a x ∷ past) r h m =
    by_cases (member-event m) (λ e. here (sym e.0) e.1 (h.0 (sym e.0))) (λ i.
    add_low (is_create (event a x)) r (creates past) (created-low past r h.1 i))
  where
    here : a ≡ create → r ≡ x → x ≡ statics + creates past → r < statics + add_if (is_create (event a x)) (creates past)
    here e f g = rw (eq-eqb a create e) (omega arith)
created-low (opening p ∷ past) r h m = created-low past r h (member-opening m)
created-low (closing p ∷ past) r h m = created-low past r h (member-closing m)
created-low (retiring x ∷ past) r h m = created-low past r h (member-retiring m)
