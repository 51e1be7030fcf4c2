-- The judge's test of a state (42) decides the rule.
use Prim.Native.Nat.{ℕ, ◌<◌}
use mathlib.Core.Path.{◌≡◌, refl, sym}
use mathlib.Core.Bool.{true≢false}
use mathlib.Core.List.Memᴰ
use mathlib.Core.List.{List, [], ◌∷◌, Memᴰ}
use mathlib.Core.Logic.{◌⊎◌, inl, inr}
use lib.Dec.{leb}
use lib.ListN.{get_or}
use Rattle.usage.specs.Limits.{statics, resources, policies, most_created, most_unclosed}
use Rattle.usage.specs.Past.{occurrences}
use Rattle.usage.specs.Tests.{Decides}
use Rattle.usage.proofs.Decides.{d-eq, d-le, d-lt, d-and, d-or, d-not, d-map, d-every}
use Rattle.monitor_sets.specs.Order.{is_policy}
use Rattle.monitor_sets.proofs.OrderLaws.{agree-below, below-agree}
use Rattle.monitor_state.specs.declared.State.{State}
use Rattle.monitor_state.specs.declared.Created.{Created}
use Rattle.monitor_state.specs.declared.Unclosed.{Unclosed}
use Rattle.monitor_state.specs.Created.{live, listed, distinct, dynamic, created_ok, highest_ok, live_ok}
use Rattle.monitor_state.specs.Unclosed.{agree_below, order_ok_lem, unclosed_ok, remembered}
use Rattle.monitor_state.specs.Judge.{state_ok_lem}
use Rattle.monitor_state.specs.Sound.{Distinct, LiveOk, UnclosedOk, StateOk}

decides-listed : (x : ℕ) (l : List ℕ) → Decides (listed x l) (Memᴰ x l)
unfolding listed
decides-listed x [] = (λ q. absurd (true≢false (sym q)), λ m. absurd (Memᴰ.not-nil m))
decides-listed x (y ∷ ys) = d-map (d-or _ _ (d-eq y x) (decides-listed x ys)) up down
  where
    up : (y ≡ x) ⊎ Memᴰ x ys → Memᴰ x (y ∷ ys)
    up (inl e) = Memᴰ.head (sym e)
    up (inr m) = Memᴰ.tail m

    down : Memᴰ x (y ∷ ys) → (y ≡ x) ⊎ Memᴰ x ys
    down m = go (Memᴰ.cases_cons m)
      where
        go : (x ≡ y) ⊎ Memᴰ x ys → (y ≡ x) ⊎ Memᴰ x ys
        go (inl e) = inl (sym e)
        go (inr i) = inr i

decides-distinct : (l : List ℕ) → Decides (distinct l) (Distinct l)
unfolding distinct Distinct
decides-distinct [] = (λ q. tt, λ t. refl)
decides-distinct (y ∷ ys) = d-and _ _ (d-not (listed y ys) (decides-listed y ys)) (decides-distinct ys)

decides-agree : (stack unclosed : List ℕ) → Decides (agree_below stack unclosed policies)
    ((p : ℕ) → p < policies → occurrences p stack ≡ get_or unclosed p 0)
decides-agree stack unclosed = (below-agree stack unclosed policies, agree-below stack unclosed policies)

decides-live : (c : Created) → Decides (live_ok c) (LiveOk c)
unfolding live_ok created_ok highest_ok
decides-live c =
    d-map
    (d-and _ _ (d-and _ _ (d-le c.count most_created)
    (d-and _ _ (d-every dynamic (λ x. d-and _ _ (d-le statics x) (d-lt x resources)) (live c)) (decides-distinct (live c))))
    (d-every (λ y. leb y c.highest) (λ x. d-le x c.highest) (live c)))
    (λ t. record { few = t.0.0; in_range_lem = t.0.1.0; apart = t.0.1.1; none_above = t.1 })
    (λ r. ((r.few, (r.in_range_lem, r.apart)), r.none_above))

decides-unclosed : (u : Unclosed) → Decides (unclosed_ok u) (UnclosedOk u)
unfolding unclosed_ok order_ok_lem
decides-unclosed u =
    d-map
    (d-and _ _ (d-le u.depth most_unclosed)
    (d-and _ _ (d-every is_policy (λ p. d-lt p policies) (remembered u)) (decides-agree (remembered u) u.counts)))
    (λ t. record { short = t.0; of_policies = t.1.0; agrees = t.1.1 })
    (λ r. (r.short, (r.of_policies, r.agrees)))

pub decides-state : (s : State) → Decides (state_ok_lem s) (StateOk s)
unfolding state_ok_lem
decides-state s =
    d-map (d-and _ _ (decides-live s.created) (decides-unclosed s.unclosed)) (λ t. record { created = t.0; unclosed = t.1 })
    (λ r. (r.created, r.unclosed))
