-- The stand-ins of resources: a static resource stands for itself, the watched dynamic ones have one each, and all others one.
use Prim.Native.Nat.{ℕ, ◌<◌, ◌≤◌}
use mathlib.Core.Path.{◌≡◌, refl, sym, ◌∙◌, subst}
use mathlib.Core.Bool.{cond}
use mathlib.Core.List.Memᴰ
use mathlib.Core.List.{List, [], ◌∷◌, map, Memᴰ}
use mathlib.Core.Logic.{◌⊎◌, inl, inr}
use native.Mathlib.Omega.{arith}
use native.Mathlib.Decide.{ℕ_discrete, dec_lt}
use lib.Dec.{eqb, ltb}
use borrow.Author.Tests.{lt-ltb, le-ltb, eq-eqb, ne_eqb}
use Rattle.usage.specs.declared.Edge.{Edge}
use Rattle.usage.specs.Limits.{statics}
use Rattle.usage.specs.Policy.{Instance, single, pair, Place}
use Rattle.usage.specs.Tests.{some_of}
use Rattle.usage.proofs.Logic.{by_cases}
use Rattle.usage.proofs.Decides.{d-eq, d-some}
use Rattle.usage.proofs.SeesLaws.{place_map, place-unmap, place-listed}
use Rattle.checker_account.specs.Account.{watched, watched_too, others}
use Rattle.checker_account.specs.Views.{Watched, one, two, apart, Chosen, dynamics}
use Rattle.checker_account.proofs.Carry.{Same}
use Rattle.checker_account.proofs.Meaning.{kept, keeps}

-- ── The watched dynamic stand-ins ──

pub in-dynamics : (us : List ℕ) (u : ℕ) → Memᴰ u us → statics ≤ u → u < others → Memᴰ u (dynamics us)
in-dynamics us u m big small =
    keeps (λ d. some_of (λ t. eqb t d) us) (watched ∷ watched_too ∷ []) u (go (ℕ_discrete u watched))
    ((d-some (λ t. eqb t u) (λ t. d-eq t u) us).1 (u, m, refl))
  where
    go : Dec (u ≡ watched) → Memᴰ u (watched ∷ watched_too ∷ [])
    go (yes e) = Memᴰ.head e
    go (no d) = let e : u ≡ watched_too = omega arith in Memᴰ.tail (Memᴰ.head e)

pub of-dynamics : (us : List ℕ) (u : ℕ) → Memᴰ u (dynamics us) → Memᴰ u us × (statics ≤ u)
of-dynamics us u m =
    let (i, t) = kept (λ d. some_of (λ t. eqb t d) us) (watched ∷ watched_too ∷ []) u m in
    let (v, j, e) = (d-some (λ t. eqb t u) (λ t. d-eq t u) us).0 t in
    (subst (λ (t : ℕ). Memᴰ t us) e j, go (Memᴰ.cases_cons i))
  where
    go : (u ≡ watched) ⊎ Memᴰ u (watched_too ∷ []) → statics ≤ u
    go (inl e) = omega arith
    go (inr n) = let e : u ≡ watched_too = Memᴰ.eq_of_singleton n in omega arith

-- ── What a stand-in tells ──

-- Each resource has a stand-in, a static one itself; those of xs are told from all others by theirs.
pub record Stands (xs : List ℕ) (role : ℕ → ℕ) : Type 0 where
  pub static : (r : ℕ) → r < statics → role r ≡ r
  pub dynamic : (r : ℕ) → statics ≤ r → statics ≤ role r
  pub own : (u r : ℕ) → Memᴰ u xs → role u ≡ role r → u ≡ r
  pub among : (r : ℕ) → statics ≤ r → (role r ≡ others) ⊎ ((role r < others) × Memᴰ r xs)

module _ {xs : List ℕ} {role : ℕ → ℕ} (h : Stands xs role) where
  pub same-stand : (r : ℕ) → Same xs r (map role xs) (role r)
  same-stand r = record {
    to = λ i e. place_map role xs i r e;
    «from» =
        λ i e. let (u, f, g) = place-unmap role xs i (role r) e in subst (λ (t : ℕ). Place xs i t) (h.own u r (place-listed xs i u f) g) f;
    static-to = λ v l e. subst (λ (t : ℕ). role t ≡ v) (sym e) (h.static v l);
    static-from = λ v l e. go v l e (dec_lt r statics);
  }
    where
      go : (v : ℕ) → v < statics → role r ≡ v → Dec (r < statics) → r ≡ v
      go v l e (yes k) = sym (h.static r k) ∙ e
      go v l e (no k) = absurd (let b = h.dynamic r (omega arith) in omega arith)

  pub map-listed : {r : ℕ} {ys : List ℕ} → Memᴰ r ys → Memᴰ (role r) (map role ys)
  map-listed {r} (Memᴰ.head e) = Memᴰ.head (λ i. role (e i))
  map-listed (Memᴰ.tail m) = Memᴰ.tail (map-listed m)

-- ── The stand-ins for one resource x, or two ──

-- where x and y are watched; of one resource it is y too
stand : ℕ → ℕ → ℕ → ℕ
stand x y r = cond (ltb r statics) r (cond (eqb r x) watched (cond (eqb r y) (cond (ltb x statics) watched watched_too) others))

-- by the five cases
data Stood (x y r : ℕ) : ℕ → Type 0 where
  as-static : r < statics → Stood x y r r
  as_first : statics ≤ r → r ≡ x → Stood x y r watched
  as-next : statics ≤ r → (r ≡ x → ⊥) → r ≡ y → x < statics → Stood x y r watched
  as-second : statics ≤ r → (r ≡ x → ⊥) → r ≡ y → statics ≤ x → Stood x y r watched_too
  as-other : statics ≤ r → (r ≡ x → ⊥) → (r ≡ y → ⊥) → Stood x y r others

module _ (x y : ℕ) where
  stood : (r : ℕ) → Stood x y r (stand x y r)
  unfolding stand
  stood r = go (dec_lt r statics) (ℕ_discrete r x) (ℕ_discrete r y) (dec_lt x statics)
    where
      go : Dec (r < statics) → Dec (r ≡ x) → Dec (r ≡ y) → Dec (x < statics) → Stood x y r (stand x y r)
      go (yes l) e f k = rw (lt-ltb r statics l) (as-static l)
      go (no l) (yes e) f k = let b : statics ≤ r = omega arith in rw (le-ltb r statics b, eq-eqb r x e) (as_first b e)
      go (no l) (no e) (yes f) (yes k) =
          let b : statics ≤ r = omega arith in rw (le-ltb r statics b, ne_eqb r x e, eq-eqb r y f, lt-ltb x statics k) (as-next b e f k)
      go (no l) (no e) (yes f) (no k) =
          let b : statics ≤ r = omega arith in
          let a : statics ≤ x = omega arith in
          rw (le-ltb r statics b, ne_eqb r x e, eq-eqb r y f, le-ltb x statics a) (as-second b e f a)
      go (no l) (no e) (no f) k = let b : statics ≤ r = omega arith in rw (le-ltb r statics b, ne_eqb r x e, ne_eqb r y f) (as-other b e f)

  stood-static : {r s : ℕ} → Stood x y r s → r < statics → s ≡ r
  stood-static (as-static a) l = refl
  stood-static (as_first a b) l = omega arith
  stood-static (as-next a b c d) l = omega arith
  stood-static (as-second a b c d) l = omega arith
  stood-static (as-other a b c) l = omega arith

  stood-dynamic : {r s : ℕ} → Stood x y r s → statics ≤ r → statics ≤ s
  stood-dynamic (as-static a) l = l
  stood-dynamic (as_first a b) l = omega arith
  stood-dynamic (as-next a b c d) l = omega arith
  stood-dynamic (as-second a b c d) l = omega arith
  stood-dynamic (as-other a b c) l = omega arith

  stood-own : {u r s t : ℕ} → Stood x y u s → Stood x y r t → (u ≡ x) ⊎ (u ≡ y) → s ≡ t → u ≡ r
  stood-own {u} {r} (as-static a₁) (as-static a₂) h e = omega arith
  stood-own {u} {r} (as-static a₁) (as_first a₂ b₂) h e = omega arith
  stood-own {u} {r} (as-static a₁) (as-next a₂ b₂ c₂ d₂) h e = omega arith
  stood-own {u} {r} (as-static a₁) (as-second a₂ b₂ c₂ d₂) h e = omega arith
  stood-own {u} {r} (as-static a₁) (as-other a₂ b₂ c₂) h e = omega arith
  stood-own {u} {r} (as_first a₁ b₁) (as-static a₂) h e = omega arith
  stood-own {u} {r} (as_first a₁ b₁) (as_first a₂ b₂) h e = omega arith
  stood-own {u} {r} (as_first a₁ b₁) (as-next a₂ b₂ c₂ d₂) h e = omega arith
  stood-own {u} {r} (as_first a₁ b₁) (as-second a₂ b₂ c₂ d₂) h e = omega arith
  stood-own {u} {r} (as_first a₁ b₁) (as-other a₂ b₂ c₂) h e = omega arith
  stood-own {u} {r} (as-next a₁ b₁ c₁ d₁) (as-static a₂) h e = omega arith
  stood-own {u} {r} (as-next a₁ b₁ c₁ d₁) (as_first a₂ b₂) h e = omega arith
  stood-own {u} {r} (as-next a₁ b₁ c₁ d₁) (as-next a₂ b₂ c₂ d₂) h e = omega arith
  stood-own {u} {r} (as-next a₁ b₁ c₁ d₁) (as-second a₂ b₂ c₂ d₂) h e = omega arith
  stood-own {u} {r} (as-next a₁ b₁ c₁ d₁) (as-other a₂ b₂ c₂) h e = omega arith
  stood-own {u} {r} (as-second a₁ b₁ c₁ d₁) (as-static a₂) h e = omega arith
  stood-own {u} {r} (as-second a₁ b₁ c₁ d₁) (as_first a₂ b₂) h e = omega arith
  stood-own {u} {r} (as-second a₁ b₁ c₁ d₁) (as-next a₂ b₂ c₂ d₂) h e = omega arith
  stood-own {u} {r} (as-second a₁ b₁ c₁ d₁) (as-second a₂ b₂ c₂ d₂) h e = omega arith
  stood-own {u} {r} (as-second a₁ b₁ c₁ d₁) (as-other a₂ b₂ c₂) h e = omega arith
  stood-own {u} {r} (as-other a₁ b₁ c₁) (as-static a₂) h e = absurd (by_cases h (λ (e : u ≡ x). omega arith) (λ (e : u ≡ y). omega arith))
  stood-own {u} {r} (as-other a₁ b₁ c₁) (as_first a₂ b₂) h e = absurd (by_cases h (λ (e : u ≡ x). omega arith) (λ (e : u ≡ y). omega arith))
  stood-own {u} {r} (as-other a₁ b₁ c₁) (as-next a₂ b₂ c₂ d₂) h e =
      absurd (by_cases h (λ (e : u ≡ x). omega arith) (λ (e : u ≡ y). omega arith))
  stood-own {u} {r} (as-other a₁ b₁ c₁) (as-second a₂ b₂ c₂ d₂) h e =
      absurd (by_cases h (λ (e : u ≡ x). omega arith) (λ (e : u ≡ y). omega arith))
  stood-own {u} {r} (as-other a₁ b₁ c₁) (as-other a₂ b₂ c₂) h e =
      absurd (by_cases h (λ (e : u ≡ x). omega arith) (λ (e : u ≡ y). omega arith))

  stood-among : {r s : ℕ} → Stood x y r s → statics ≤ r → (s ≡ others) ⊎ ((s < others) × ((r ≡ x) ⊎ (r ≡ y)))
  stood-among (as-static a) l = absurd (omega arith)
  stood-among (as_first a b) l = inr (omega arith, inl b)
  stood-among (as-next a b c d) l = inr (omega arith, inr c)
  stood-among (as-second a b c d) l = inr (omega arith, inr c)
  stood-among (as-other a b c) l = inl refl

  stood-first : {s : ℕ} → Stood x y x s → s ≤ watched
  stood-first (as-static a) = omega arith
  stood-first (as_first a b) = omega arith
  stood-first (as-next a b c d) = omega arith
  stood-first (as-second a b c d) = absurd (b refl)
  stood-first (as-other a b c) = absurd (b refl)

  -- the two of a pair: y too is at most 16, or x is 16 and y is 17
  stood-pair : {s t : ℕ} → Stood x y x s → Stood x y y t → (t ≤ watched) ⊎ ((s ≡ watched) × (t ≡ watched_too))
  stood-pair u (as-static a) = inl (omega arith)
  stood-pair u (as_first a b) = inl (omega arith)
  stood-pair u (as-next a b c d) = inl (omega arith)
  stood-pair (as-static l) (as-second a b c d) = absurd (omega arith)
  stood-pair (as_first l e) (as-second a b c d) = inr (refl, refl)
  stood-pair (as-next l e f k) (as-second a b c d) = absurd (e refl)
  stood-pair (as-second l e f k) (as-second a b c d) = absurd (e refl)
  stood-pair (as-other l e f) (as-second a b c d) = absurd (e refl)
  stood-pair u (as-other a b c) = absurd (c refl)

  stands_by : (xs : List ℕ) → ((u : ℕ) → Memᴰ u xs → (u ≡ x) ⊎ (u ≡ y)) → ((u : ℕ) → (u ≡ x) ⊎ (u ≡ y) → Memᴰ u xs)
      → Stands xs (stand x y)
  stands_by xs of-xs in-xs = record {
    static = λ r l. stood-static (stood r) l;
    dynamic = λ r l. stood-dynamic (stood r) l;
    own = λ u r m e. stood-own (stood u) (stood r) (of-xs u m) e;
    among = λ r l. go r (stood-among (stood r) l);
  }
    where
      go : (r : ℕ) → (stand x y r ≡ others) ⊎ ((stand x y r < others) × ((r ≡ x) ⊎ (r ≡ y)))
          → (stand x y r ≡ others) ⊎ ((stand x y r < others) × Memᴰ r xs)
      go r (inl e) = inl e
      go r (inr (l, e)) = inr (l, in-xs r e)

-- the stand-ins of an instance
pub record Cast (es : List Edge) (p : ℕ) (xs : List ℕ) : Type 0 where
  pub role : ℕ → ℕ
  pub stands : Stands xs role
  pub chosen : Chosen es p (map role xs)

pub cast : {es : List Edge} {p : ℕ} {xs : List ℕ} → Instance es p xs → Cast es p xs
cast (single {x = x} n) = record {
  role = stand x x;
  stands =
      stands_by x x (x ∷ []) (λ u m. inl (Memᴰ.eq_of_singleton m)) (λ u e. by_cases e (λ f. Memᴰ.head f) (λ f. Memᴰ.head f));
  chosen = record { watches = one (stood-first x x (stood x x x)); fits = single n };
}
cast (pair {x = x} {y = y} h) = record {
  role = stand x y;
  stands = stands_by x y (x ∷ y ∷ []) (λ u m. by_cases (Memᴰ.cases_cons m) (λ e. inl e) (λ i. inr (Memᴰ.eq_of_singleton i)))
      (λ u e. by_cases e (λ f. Memᴰ.head f) (λ f. Memᴰ.tail (Memᴰ.head f)));
  chosen = record {
    watches = go (stand x y x) (stand x y y) (stood-first x y (stood x y x)) (stood-pair x y (stood x y x) (stood x y y));
    fits = pair h;
  };
}
  where
    go : (s t : ℕ) → s ≤ watched → (t ≤ watched) ⊎ ((s ≡ watched) × (t ≡ watched_too)) → Watched (s ∷ t ∷ [])
    go s t l (inl k) = two l k
    go s t l (inr (e, f)) = subst (λ (a : ℕ). Watched (a ∷ t ∷ [])) (sym e) (subst (λ (b : ℕ). Watched (watched ∷ b ∷ [])) (sym f) apart)
