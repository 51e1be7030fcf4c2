-- `live_ok` meets its contract: what is asked of the numbers, and then of the highest one.
use Prim.Native.Nat.{ℕ, ◌≤◌}
use mathlib.Core.Bool.{Bool, true, false, ◌&&◌}
use mathlib.Core.List.{List}
use mathlib.Core.Path.{◌≡◌, sym, ap, ◌∙◌}
use lib.Dec.{leb}
use lib.ListN.{length, take}
use lib.Seq.{take-length}
use borrow.Author.Tests.{le-leb, lt-leb}
use Rattle.usage.specs.Limits.{most_created}
use Rattle.usage.specs.Tests.{every}
use Rattle.monitor_sets.specs.Created.{dynamic, distinct, created_ok, highest_ok}
use Rattle.monitor_sets.proofs.created.live_ok.Goals as goal

-- the live ones are lent as a part of the array
module _ (count : ℕ) (l : List ℕ) (h : count ≤ most_created) where
  abbrev live : List ℕ
  live = take count l

  -- numbers that are unsound, and sound ones with what is said of the highest
  unsound : (r t : Bool) → r ≡ (every dynamic live && distinct live) → r ≡ false → r ≡ (created_ok count l && t)
  unfolding created_ok
  unsound r t e z = rw z (simp (le-leb count most_created h, sym e ∙ z))

  sound : (b r : Bool) (highest : ℕ) → b ≡ (every dynamic live && distinct live) → b ≡ true → r ≡ highest_ok highest (length live) live
      → r ≡ (created_ok count l && highest_ok highest count l)
  unfolding created_ok highest_ok
  sound b r highest e z k =
      simp (le-leb count most_created h, sym e ∙ z)
      (k ∙ ap (every (λ y. leb y highest)) (take-length live))

pub returns-then-count-gt-MOST_CREATED-clause-value : goal.returns-then-count-gt-MOST_CREATED-clause-value
unfolding created_ok
returns-then-count-gt-MOST_CREATED-clause-value c = simp (lt-leb _ _ c.if-count-gt-MOST_CREATED.true)

pub returns-then-rising_sound-clause-value : goal.returns-then-rising_sound-clause-value
returns-then-rising_sound-clause-value c =
    sound _ _ c.if-count-gt-MOST_CREATED.false _ _ _ c.rising_sound.ensures c.if-rising_sound.true c.last_not_above.ensures

pub returns-else-rising_sound-clause-value : goal.returns-else-rising_sound-clause-value
returns-else-rising_sound-clause-value c =
    unsound _ _ c.if-count-gt-MOST_CREATED.false _ _ c.rising_sound.ensures c.if-rising_sound.false

pub returns-then-all_sound-clause-value : goal.returns-then-all_sound-clause-value
returns-then-all_sound-clause-value c =
    sound _ _ c.if-count-gt-MOST_CREATED.false _ _ _ c.all_sound.ensures c.if-all_sound.true c.none_above.ensures

pub returns-else-all_sound-clause-value : goal.returns-else-all_sound-clause-value
returns-else-all_sound-clause-value c = unsound _ _ c.if-count-gt-MOST_CREATED.false _ _ c.all_sound.ensures c.if-all_sound.false
