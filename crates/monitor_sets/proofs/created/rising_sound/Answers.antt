-- `rising_sound` meets its contract: there is no number, the first is out of range, or the last is or is not.
use Prim.Native.Nat.{ℕ, ◌-◌, ◌<◌, ◌≤◌}
use mathlib.Core.Bool.{Bool, true, false, ◌&&◌}
use mathlib.Core.List.{List}
use mathlib.Core.Path.{◌≡◌, refl, sym}
use lib.Dec.{leb}
use lib.ListN.{length, get_or}
use borrow.Author.Tests.{leb-true, leb-false}
use Rattle.usage.specs.Limits.{statics, resources}
use Rattle.usage.specs.Tests.{every}
use Rattle.monitor_sets.specs.Created.{dynamic, distinct}
use Rattle.monitor_sets.specs.Code.{rises}
use native.Mathlib.Omega.{arith}
use Rattle.monitor_sets.proofs.CreatedLaws.{sound-end, rising-sound, low-unsound, high-unsound}
use Rattle.monitor_sets.proofs.created.rising_sound.Goals as goal

-- the last number is in range, or it is not
go : (l : List ℕ) → 0 < length l → rises l (length l - 1) ≡ true → statics ≤ get_or l 0 0 → (b : Bool)
    → leb (get_or l (length l - 1) 0) (resources - 1) ≡ b → b ≡ (every dynamic l && distinct l)
go l h up low true e = sym (rising-sound l up low (omega (arith, leb-true (get_or l (length l - 1) 0) (resources - 1) e)))
go l h up low false e = sym (high-unsound l (length l - 1) (omega arith) (omega (arith, leb-false (get_or l (length l - 1) 0) (resources - 1) e)))

pub returns-in-empty : goal.returns-in-empty
returns-in-empty c = sym (sound-end c.args.live.now 0 (omega arith))

pub returns-in-len1-up : goal.returns-in-len1-up
returns-in-len1-up c = sym (low-unsound c.args.live.now 0 (omega arith) c.if-first-lt-STATICS.true)

pub returns-in-len1-up-2 : goal.returns-in-len1-up-2
returns-in-len1-up-2 c =
    let l = c.args.live.now in
    go l (omega arith) c.requires c.if-first-lt-STATICS.false (leb (get_or l (length l - 1) 0) (resources - 1)) refl
