-- Facts that a wrong definition of a renaming would break.
use Prim.Native.Nat.{ℕ, ◌+◌, ◌-◌}
use mathlib.Core.Path.{◌≡◌, refl, ap, sym, ◌∙◌, subst}
use mathlib.Core.Bool.{true}
use mathlib.Core.List.Memᴰ
use mathlib.Core.List.{List, [], ◌∷◌}
use mathlib.Core.Logic.{inl, inr}
use native.Mathlib.Omega.{arith}
use Rattle.usage.specs.declared.RawStep.{RawStep}
use Rattle.usage.proofs.Logic.{false-true, by_cases}
use Rattle.monitor_state.specs.Judge.{dynamic}
use Rattle.monitor_state.specs.Renamed.{Occurring, Renaming, renamed, renamed_step}

abbrev step : ℕ → ℕ → ℕ → RawStep
step kind a b = record { kind = kind; a = a; b = b }

-- 16 and then 17 are created
abbrev two : List RawStep
two = step 0 0 16 ∷ step 0 0 17 ∷ []

first : Occurring two 16
first = record { is_dynamic = refl; step = step 0 0 16; inside = Memᴰ.head refl; names = inl (refl, refl) }

second : Occurring two 17
second = record { is_dynamic = refl; step = step 0 0 17; inside = Memᴰ.tail (Memᴰ.head refl); names = inl (refl, refl) }

-- 16 to 4,294,967,295 in the reverse order keeps no order
abbrev reversed : ℕ → ℕ
reversed x = 4294967311 - x

reverses : Renaming reversed two → ⊥
reverses R = let l = R.keeps_order 16 17 first second (omega arith) in omega arith

-- two numbers that become one do not
one-for-all : Renaming (λ x. 16) two → ⊥
one-for-all R = let l = R.keeps_order 16 17 first second (omega arith) in omega arith

-- nor is it a renaming to leave the dynamic numbers
to-static : Renaming (λ x. x - 1) two → ⊥
to-static R = false-true (R.among 16 first)

-- a retired number occurs
retired-occurs : Occurring (step 3 16 0 ∷ []) 16
retired-occurs = record { is_dynamic = refl; step = step 3 16 0; inside = Memᴰ.head refl; names = inr (refl, refl) }

-- where 16 alone occurs, only its own number matters: this is a renaming, though it takes 4,294,967,295 out of range
abbrev next : ℕ → ℕ
next x = x + 1

alone : (x : ℕ) → Occurring (step 0 0 16 ∷ []) x → x ≡ 16
alone x o =
    let e : o.step ≡ step 0 0 16 = Memᴰ.eq_of_singleton o.inside in
    by_cases o.names (λ n. sym n.1 ∙ ap (λ (s : RawStep). s.b) e)
    (λ n. absurd (let z : 0 ≡ 3 = sym (ap (λ (s : RawStep). s.kind) e) ∙ n.0 in omega arith))

shifts : Renaming next (step 0 0 16 ∷ [])
shifts = record {
  among = λ x o. subst (λ (n : ℕ). dynamic (next n) ≡ true) (sym (alone x o)) refl;
  keeps_order = λ x y o p l. omega arith;
}

-- an event's dynamic resource is renamed, a create's too, and in a step that is refused
event-renamed : renamed_step reversed (step 0 1 16) ≡ step 0 1 4294967295
unfolding renamed_step renamed
event-renamed = refl

create-renamed : renamed_step reversed (step 0 0 4294967295) ≡ step 0 0 16
unfolding renamed_step renamed
create-renamed = refl

-- and a retiring's
retiring-renamed : renamed_step reversed (step 3 16 0) ≡ step 3 4294967295 0
unfolding renamed_step renamed
retiring-renamed = refl

-- statics and numbers that no step may name stay
static_stays : renamed_step reversed (step 0 1 15) ≡ step 0 1 15
unfolding renamed_step renamed
static_stays = refl

beyond-stays : renamed_step reversed (step 0 1 4294967296) ≡ step 0 1 4294967296
unfolding renamed_step renamed
beyond-stays = refl

-- and so does all of a step that is neither
opening-stays : renamed_step reversed (step 1 16 16) ≡ step 1 16 16
unfolding renamed_step renamed
opening-stays = refl

malformed-stays : renamed_step reversed (step 4 16 16) ≡ step 4 16 16
unfolding renamed_step renamed
malformed-stays = refl
