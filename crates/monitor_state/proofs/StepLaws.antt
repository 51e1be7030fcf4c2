-- The laws of reading a step.
use Prim.Native.Nat.{ℕ, zero, suc}
use mathlib.Core.Path.{◌≡◌, refl, sym, ap, ◌∙◌}
use Rattle.std.specs.Prelude.{Some}
use mathlib.Core.Bool.{true, false}
use mathlib.Core.Option.{Option, none, some}
use lib.ListN.{get_elem?}
use Rattle.usage.specs.declared.RawStep.{RawStep}
use Rattle.usage.specs.Limits.{Kind}
use Rattle.usage.specs.Past.{Step}
use Rattle.usage.specs.Judge.{step_kinds, in_range, step_of}
use Rattle.usage.specs.Tests.{fits}
use Rattle.sheet_fields.specs.Fields.{step_ok}
use Rattle.monitor_state.specs.Code.{said, says}
use Rattle.monitor_state.specs.declared.Step.{Step as Read}

-- three numbers that are not those of a step, and three that are
pub not-read : (raw : RawStep) → step_ok raw ≡ false → step_of raw ≡ none
unfolding step_ok step_of
not-read raw = unfit (get_elem? step_kinds raw.kind)
  where
    unfit : (k : Option (Kind Step)) → fits k raw.a raw.b ≡ false → in_range k raw.a raw.b ≡ none
    unfit none h = refl
    unfit (some k) h = rw h

pub is_read : (raw : RawStep) (k : Kind Step) → get_elem? step_kinds raw.kind ≡ some k → step_ok raw ≡ true
    → step_of raw ≡ some (k.says raw.a raw.b)
unfolding step_ok step_of
is_read raw k e h = rw e (rw (rw e at h))

-- there is no kind above 3
pub no_kind : (k : ℕ) → (k ≡ 0 → ⊥) → (k ≡ 1 → ⊥) → (k ≡ 2 → ⊥) → (k ≡ 3 → ⊥) → get_elem? step_kinds k ≡ none
no_kind zero a b c d = absurd (a refl)
no_kind (suc zero) a b c d = absurd (b refl)
no_kind (suc (suc zero)) a b c d = absurd (c refl)
no_kind (suc (suc (suc zero))) a b c d = absurd (d refl)
no_kind (suc (suc (suc (suc k)))) a b c d = refl

-- what is read is a step
pub step-said : (raw : RawStep) {read r : Read} → says (Some read) ≡ step_of raw → read ≡ r → step_of raw ≡ some (said r)
step-said raw e is = sym e ∙ ap (λ (x : Read). some (said x)) is
