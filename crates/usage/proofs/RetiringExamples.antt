-- Facts that a wrong definition of a retiring would break (02, L8).
use Prim.Native.Nat.{ℕ}
use mathlib.Core.Path.{◌≡◌, refl}
use mathlib.Core.Bool.{false}
use mathlib.Core.List.Memᴰ
use mathlib.Core.List.{List, [], ◌∷◌}
use mathlib.Core.Logic.{inl}
use native.Mathlib.Omega.{arith}
use Rattle.usage.specs.declared.Edge.{Edge}
use Rattle.usage.specs.declared.RawStep.{RawStep}
use Rattle.usage.specs.Policy.{single, own, other, along}
use Rattle.usage.specs.Past.{Step, event, opening, retiring, count, without, open_stack, live_in, Live, highest}
use Rattle.usage.specs.Past.{start, moved, opened, retired, Retired, Violates}
use Rattle.usage.specs.Judge.{step_of, Case, not_above, retires_static, not_live, not_created}
use Rattle.usage.specs.Retirings.{thinned, Added, all_added, step_kept, retiring_added}
use Rattle.usage.specs.Tests.{some_of, is_pair}
use Rattle.usage.proofs.Logic.{clash, by_cases}
use Rattle.usage.proofs.SeesLaws.{place-one}
use Rattle.usage.proofs.Decides.{refutes}
use Rattle.usage.proofs.ValidLaws.{decides-pair}

-- ── What is live ──

-- a retired resource is live no longer, and the others stay in their order
place-freed : live_in (retiring 16 ∷ event 0 18 ∷ event 2 16 ∷ event 0 17 ∷ event 0 16 ∷ []) ≡ 17 ∷ 18 ∷ []
unfolding live_in without
place-freed = refl

-- the highest number is that of all that were created
highest-kept : highest (retiring 17 ∷ event 0 17 ∷ event 9 40 ∷ event 0 16 ∷ []) ≡ 17
unfolding highest
highest-kept = refl

-- a retiring is neither opening nor closing
still_open : open_stack (retiring 16 ∷ opening 1 ∷ event 0 16 ∷ opening 0 ∷ []) ≡ 1 ∷ 0 ∷ []
unfolding open_stack
still_open = refl

-- ── The instance of a retired resource moves on, and may break its policy ──

abbrev edge : ℕ → ℕ → ℕ → ℕ → ℕ → ℕ → Edge
edge p f a o w t = record { policy = p; «from» = f; action = a; on = o; who = w; to = t }

-- creating x leads to state 1, and from there action 4 on another to 6: no other instance leaves state 0
abbrev marked : List Edge
marked = edge 0 0 0 1 0 1 ∷ edge 0 1 4 2 0 6 ∷ []

retired-breaks : Violates false marked 0 (event 4 3 ∷ retiring 16 ∷ event 0 16 ∷ opening 0 ∷ [])
unfolding count is_pair some_of
retired-breaks = (
  omega arith,
  (
    16 ∷ [],
    single (refutes (decides-pair marked 0) refl),
    6,
    moved
        (retired (moved (opened start) (along (edge 0 0 0 1 0 1) (Memᴰ.head refl)
        (record { policy = refl; «from» = refl; action = refl; label = own refl }))))
        (along (edge 0 1 4 2 0 6) (Memᴰ.tail (Memᴰ.head refl))
        (record { policy = refl; «from» = refl; action = refl; label = other (λ i e. let d = place-one 16 i 3 e in omega arith) })),
    inl refl,
  ),
)

-- ── Numbers ──

abbrev raw : ℕ → ℕ → ℕ → RawStep
raw k a b = record { kind = k; a = a; b = b }

-- a number is created once, also where it is retired; a lower one is not created later
created-once : Case (retiring 16 ∷ event 0 16 ∷ []) false (raw 0 0 16) 27
unfolding step_of highest
created-once = not_above refl (omega arith)

created-lower : Case (event 0 17 ∷ []) false (raw 0 0 16) 27
unfolding step_of highest
created-lower = not_above refl (omega arith)

-- nothing can be done with what is retired
gone : Live 16 (retiring 16 ∷ event 0 16 ∷ []) → ⊥
unfolding live_in without
gone m = Memᴰ.not-nil m

used-after : Case (retiring 16 ∷ event 0 16 ∷ []) false (raw 0 1 16) 24
unfolding step_of
used-after = not_created refl (omega arith) gone

retired-again : Case (retiring 16 ∷ event 0 16 ∷ []) false (raw 3 16 0) 28
unfolding step_of
retired-again = not_live refl gone

static-retired : Case [] false (raw 3 3 0) 28
unfolding step_of
static-retired = retires_static refl (omega arith)

-- ── Retirings that are added ──

thinned-out : thinned (retiring 17 ∷ event 1 17 ∷ retiring 16 ∷ event 0 17 ∷ event 0 16 ∷ []) ≡ event 1 17 ∷ event 0 17 ∷ event 0 16 ∷ []
unfolding thinned
thinned-out = refl

abbrev plain : List Step
plain = event 0 16 ∷ event 1 16 ∷ []

-- after the last step on it
late : Added [] plain (event 0 16 ∷ event 1 16 ∷ retiring 16 ∷ [])
late = step_kept (step_kept (retiring_added (Memᴰ.tail (Memᴰ.head refl)) none_yet (λ a m. Memᴰ.not-nil m) all_added))
  where
    none_yet : Retired 16 (event 1 16 ∷ event 0 16 ∷ []) → ⊥
    none_yet m =
        by_cases (Memᴰ.cases_cons m) (λ (e : retiring 16 ≡ event 1 16). clash (cc))
        (λ i. let e : retiring 16 ≡ event 0 16 = Memᴰ.eq_of_singleton i in clash (cc))

-- not before it
early : Added [] plain (event 0 16 ∷ retiring 16 ∷ event 1 16 ∷ []) → ⊥
early (step_kept (retiring_added c n d rest)) = d 1 (Memᴰ.head refl)
