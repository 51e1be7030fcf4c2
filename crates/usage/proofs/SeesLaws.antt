-- How instances see events, over the list of an instance's resources: no law here asks how many there are.
use Prim.Native.Nat.{ℕ, zero, suc, ◌≤◌}
use mathlib.Core.Path.{◌≡◌, refl, sym, ap, subst}
use mathlib.Core.Option.{Option, some, some-injective}
use mathlib.Core.List.{List, [], ◌∷◌, map, Memᴰ}
use mathlib.Core.Logic.{◌↔◌}
use native.Mathlib.Omega.{arith}
use native.Mathlib.Decide.{ℕ_discrete}
use Rattle.usage.specs.declared.Edge.{Edge}
use Rattle.usage.specs.Policy.{Instance, single, pair, Place, Sees, named, own, other, second, Moves, along, stays}
use Rattle.usage.proofs.Logic.{none-some}

-- ── Places ──

pub place-nowhere : (i r : ℕ) → Place [] i r → ⊥
place-nowhere zero r e = none-some e
place-nowhere (suc i) r e = none-some e

-- of one resource
pub place-one : (x i r : ℕ) → Place (x ∷ []) i r → x ≡ r
place-one x zero r e = some-injective x r e
place-one x (suc i) r e = absurd (place-nowhere i r e)

pub place-listed : (xs : List ℕ) (i r : ℕ) → Place xs i r → Memᴰ r xs
place-listed [] i r e = absurd (place-nowhere i r e)
place-listed (x ∷ xs) zero r e = Memᴰ.head (sym (some-injective x r e))
place-listed (x ∷ xs) (suc i) r e = Memᴰ.tail (place-listed xs i r e)

pub listed-place : {r : ℕ} {xs : List ℕ} → Memᴰ r xs → (i : ℕ) × Place xs i r
listed-place (Memᴰ.head e) = (0, ap {B = Option ℕ} some (sym e))
listed-place (Memᴰ.tail m) = let (i, e) = listed-place m in (suc i, e)

pub place_map : (f : ℕ → ℕ) (xs : List ℕ) (i r : ℕ) → Place xs i r → Place (map f xs) i (f r)
place_map f [] i r e = absurd (place-nowhere i r e)
place_map f (x ∷ xs) zero r e = ap {B = Option ℕ} (λ (t : ℕ). some (f t)) (some-injective x r e)
place_map f (x ∷ xs) (suc i) r e = place_map f xs i r e

pub place-unmap : (f : ℕ → ℕ) (xs : List ℕ) (i s : ℕ) → Place (map f xs) i s → (r : ℕ) × Place xs i r × (f r ≡ s)
place-unmap f [] i s e = absurd (place-nowhere i s e)
place-unmap f (x ∷ xs) zero s e = (x, refl, some-injective (f x) s e)
place-unmap f (x ∷ xs) (suc i) s e = place-unmap f xs i s e

-- is r at some place?
abbrev pub Somewhere : List ℕ → ℕ → Type 0
Somewhere xs r = (i : ℕ) × Place xs i r

pub somewhere? : (xs : List ℕ) (r : ℕ) → Dec (Somewhere xs r)
somewhere? [] r = no (λ h. place-nowhere h.0 r h.1)
somewhere? (x ∷ xs) r = go (ℕ_discrete x r) (somewhere? xs r)
  where
    not-here : (x ≡ r → ⊥) → (Somewhere xs r → ⊥) → (i : ℕ) → Place (x ∷ xs) i r → ⊥
    not-here d n zero e = d (some-injective x r e)
    not-here d n (suc i) e = n (i, e)

    go : Dec (x ≡ r) → Dec (Somewhere xs r) → Dec (Somewhere (x ∷ xs) r)
    go (yes e) h = yes (0, ap {B = Option ℕ} some e)
    go (no d) (yes (i, e)) = yes (suc i, e)
    go (no d) (no n) = no (λ h. not-here d n h.0 h.1)

-- an instance stays one, whichever its resources are
pub instance-map : {es : List Edge} {p : ℕ} {xs : List ℕ} (f : ℕ → ℕ) → Instance es p xs → Instance es p (map f xs)
instance-map f (single n) = single n
instance-map f (pair h) = pair h

-- ── Seeing ──

-- two ways of seeing an event that agree on the labels of the edges move an instance alike
pub moves-alike : {es : List Edge} {p a : ℕ} {sees views : ℕ → ℕ → Type 0} {q q' : ℕ}
    → ((e : Edge) → Memᴰ e es → sees e.on e.who ↔ views e.on e.who) → Moves es p a sees q q' → Moves es p a views q q'
moves-alike same (along e m f) =
    along e m (record { policy = f.policy; «from» = f.from; action = f.action; label = (same e m).0 f.label })
moves-alike same (stays none) =
    stays (λ e m f. none e m (record { policy = f.policy; «from» = f.from; action = f.action; label = (same e m).1 f.label }))

-- an instance sees of an event's resource only at which of its places it is
pub sees-alike : {xs ys : List ℕ} {r on who : ℕ} → ((i : ℕ) → Place xs i r ↔ Place ys i r) → Sees xs r on who → Sees ys r on who
sees-alike s named = named
sees-alike s (own e) = own ((s 0).0 e)
sees-alike s (other f) = other (λ i e. f i ((s i).1 e))
sees-alike s (second e) = second ((s 1).0 e)

pub moves-sees : {es : List Edge} {p a r q q' : ℕ} {xs ys : List ℕ} → ((i : ℕ) → Place xs i r ↔ Place ys i r)
    → Moves es p a (Sees xs r) q q' → Moves es p a (Sees ys r) q q'
moves-sees s m = moves-alike (λ e i. (sees-alike s, sees-alike (λ j. ((s j).1, (s j).0)))) m

-- Place by place the same resource, or two that r is not: an event on r moves both alike. (What is retired moves on as one never used.)
pub data Beside (r : ℕ) : List ℕ → List ℕ → Type 0 where
  none_left : Beside r [] []
  same : {x : ℕ} {xs ys : List ℕ} → Beside r xs ys → Beside r (x ∷ xs) (x ∷ ys)
  swapped : {x y : ℕ} {xs ys : List ℕ} → (x ≡ r → ⊥) → (y ≡ r → ⊥) → Beside r xs ys → Beside r (x ∷ xs) (y ∷ ys)

beside-place : {r : ℕ} {xs ys : List ℕ} → Beside r xs ys → (i : ℕ) → Place xs i r ↔ Place ys i r
beside-place none_left i = (λ e. e, λ e. e)
beside-place (same b) zero = (λ e. e, λ e. e)
beside-place (same b) (suc i) = beside-place b i
beside-place {r} (swapped {x = x} {y = y} d f b) zero =
    (λ e. absurd (d (some-injective x r e)), λ e. absurd (f (some-injective y r e)))
beside-place (swapped d f b) (suc i) = beside-place b i

pub moves-beside : {es : List Edge} {p a r q q' : ℕ} {xs ys : List ℕ} → Beside r xs ys → Moves es p a (Sees xs r) q q'
    → Moves es p a (Sees ys r) q q'
moves-beside b m = moves-sees (beside-place b) m

sees_named : {xs : List ℕ} {r who : ℕ} → Sees xs r 0 who → r ≡ who
sees_named named = refl

sees-own : {xs : List ℕ} {r who : ℕ} → Sees xs r 1 who → Place xs 0 r
sees-own (own e) = e

sees-other : {xs : List ℕ} {r who : ℕ} → Sees xs r 2 who → (i : ℕ) → Place xs i r → ⊥
sees-other (other d) = d

sees-second : {xs : List ℕ} {r who : ℕ} → Sees xs r 3 who → Place xs 1 r
sees-second (second e) = e

sees_more : {xs : List ℕ} {r on who : ℕ} → 4 ≤ on → Sees xs r on who → ⊥
sees_more l named = omega arith
sees_more l (own e) = omega arith
sees_more l (other d) = omega arith
sees_more l (second e) = omega arith

place? : (xs : List ℕ) (i r : ℕ) → Dec (Place xs i r)
place? [] i r = no (place-nowhere i r)
place? (x ∷ xs) zero r = go (ℕ_discrete x r)
  where
    go : Dec (x ≡ r) → Dec (Place (x ∷ xs) 0 r)
    go (yes e) = yes (ap {B = Option ℕ} some e)
    go (no d) = no (λ e. d (some-injective x r e))
place? (x ∷ xs) (suc i) r = place? xs i r

pub sees? : (xs : List ℕ) (r on who : ℕ) → Dec (Sees xs r on who)
sees? xs r zero who = go (ℕ_discrete r who)
  where
    go : Dec (r ≡ who) → Dec (Sees xs r 0 who)
    go (yes e) = yes (subst (λ (v : ℕ). Sees xs r 0 v) e named)
    go (no d) = no (λ s. d (sees_named s))
sees? xs r (suc zero) who = go (place? xs 0 r)
  where
    go : Dec (Place xs 0 r) → Dec (Sees xs r 1 who)
    go (yes e) = yes (own e)
    go (no d) = no (λ s. d (sees-own s))
sees? xs r (suc (suc zero)) who = go (somewhere? xs r)
  where
    go : Dec (Somewhere xs r) → Dec (Sees xs r 2 who)
    go (yes e) = no (λ s. sees-other s e.0 e.1)
    go (no d) = yes (other (λ i e. d (i, e)))
sees? xs r (suc (suc (suc zero))) who = go (place? xs 1 r)
  where
    go : Dec (Place xs 1 r) → Dec (Sees xs r 3 who)
    go (yes e) = yes (second e)
    go (no d) = no (λ s. d (sees-second s))
sees? xs r (suc (suc (suc (suc on)))) who = no (λ s. sees_more (omega arith) s)
