-- A resource that is not touched is a static one that no event is on.
use Prim.Native.Nat.{ℕ, ◌/◌}
use mathlib.Core.Path.{◌≡◌, refl, sym, ap, ◌∙◌}
use mathlib.Core.Bool.{Bool, true, false, ◌||◌}
use mathlib.Core.Option.{Option, some}
use mathlib.Core.List.{List}
use lib.Dec.{leb}
use lib.ListN.{length}
use borrow.Author.Tests.{eq-eqb, leb-false}
use Rattle.usage.specs.Limits.{node_fields}
use Rattle.usage.specs.Outline.{Form, static_event}
use Rattle.usage.specs.Tests.{some_below}
use Rattle.usage.proofs.Logic.{false-true, not-both}
use Rattle.automaton.proofs.MaskLaws.{some_at}
use Rattle.checker_account.specs.Account.{watched}
use Rattle.checker_account.specs.Filling.{forms_in, Untouched}
use Rattle.checker_tables.specs.Search.{is_on_lem, touched}

-- an event on it is
on-it : (x a : ℕ) {f : Option Form} → f ≡ some (static_event a x) → is_on_lem x f ≡ true
on-it x a e = ap (is_on_lem x) e ∙ eq-eqb x x refl

pub untouched : (t : List ℕ) (x : ℕ) → touched t x ≡ false → Untouched (length t / node_fields) (forms_in t) x
unfolding touched
untouched t x h = record {
  static = leb-false watched x (or_left_false (leb watched x) _ h);
  no_event = λ k a l e.
      not-both (some_below on (length t / node_fields)) (some_at (length t / node_fields) on k l (on-it x a e))
      (or_right_false (leb watched x) _ h);
}
  where
    on : ℕ → Bool
    on k = is_on_lem x (forms_in t k)

    or_left_false : (a b : Bool) → (a || b) ≡ false → a ≡ false
    or_left_false true b e = e
    or_left_false false b e = refl

    or_right_false : (a b : Bool) → (a || b) ≡ false → b ≡ false
    or_right_false true b e = false-true (sym e)
    or_right_false false b e = e

-- the dynamic resource is
pub dynamic-touched : (t : List ℕ) → touched t watched ≡ true
unfolding touched
dynamic-touched t = refl
