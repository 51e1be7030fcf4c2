-- What stand-ins keep, and that they are sights of a policy, single or pair.
use Prim.Native.Nat.{ℕ, zero, suc, ◌<◌}
use mathlib.Core.Path.{◌≡◌, refl, sym, ◌∙◌, ap, subst}
use mathlib.Core.Bool.{Bool, true, false, not, cond}
use mathlib.Core.List.{List, [], ◌∷◌, Memᴰ}
use mathlib.Core.Logic.{◌⊎◌, inl, inr}
use native.Mathlib.Omega.{arith}
use native.Mathlib.Decide.{ℕ_discrete}
use lib.Dec.{eqb}
use lib.ListN.{length, length-set}
use lib.Seq.{get_or-set_same, get_or-set_other}
use Rattle.usage.specs.declared.Edge.{Edge}
use Rattle.usage.specs.Limits.{most_names}
use Rattle.usage.specs.Tests.{some_of}
use Rattle.checker_account.specs.Account.{watched, watched_too, others}
use Rattle.checker_account.specs.Views.{Chosen, no_meaning, stand_in, means_now, keep_if, dynamics, left_after, New, another, awaited}
use Rattle.checker_account.specs.Views.{Ordered, neither, just_first, just_second, both, View, MakesAny, given, views}
use Rattle.checker_account.proofs.Meaning.{left-part}
use Rattle.checker_account.proofs.BegunLaws.{Keeps}
use Rattle.checker_account.proofs.RendersLaws.{Renders}
use Rattle.checker_account.proofs.SightsLaws.{Sights}

ordered-dynamics : (us : List ℕ) → Ordered (dynamics us)
unfolding keep_if
ordered-dynamics us = go (some_of (λ u. eqb u watched) us) (some_of (λ u. eqb u watched_too) us)
  where
    go : (a b : Bool) → Ordered (cond a (watched ∷ cond b (watched_too ∷ []) []) (cond b (watched_too ∷ []) []))
    go true true = both
    go true false = just_first
    go false true = just_second
    go false false = neither

ordered-after : {c : List ℕ} (d : ℕ) → Ordered c → Ordered (left_after d c)
unfolding keep_if
ordered-after d neither = neither
ordered-after d just_first = go (not (eqb watched d))
  where
    go : (a : Bool) → Ordered (cond a (watched ∷ []) [])
    go true = just_first
    go false = neither
ordered-after d just_second = go (not (eqb watched_too d))
  where
    go : (a : Bool) → Ordered (cond a (watched_too ∷ []) [])
    go true = just_second
    go false = neither
ordered-after d both = go (not (eqb watched d)) (not (eqb watched_too d))
  where
    go : (a b : Bool) → Ordered (cond a (watched ∷ cond b (watched_too ∷ []) []) (cond b (watched_too ∷ []) []))
    go true true = both
    go true false = just_first
    go false true = just_second
    go false false = neither

none-meant : (m : ℕ) → stand_in no_meaning m ≡ others
none-meant zero = refl
none-meant (suc zero) = refl
none-meant (suc (suc zero)) = refl
none-meant (suc (suc (suc zero))) = refl
none-meant (suc (suc (suc (suc m)))) = refl

-- a resource that is new, watched or not
new-cases : (us : List ℕ) {c : List ℕ} {d : ℕ} → ((e : ℕ) → Memᴰ e c → Memᴰ e (dynamics us)) → New c d
    → (d ≡ others) ⊎ (Memᴰ d (dynamics us) × Memᴰ d c)
new-cases us left another = inl refl
new-cases us left (awaited {d = d} m) = inr (left d m, m)

module _ {us w c : List ℕ} {d n : ℕ} (v : View us w c) (small : n < most_names) (new : New c d) where
  in_range_lem : n < length w
  in_range_lem = omega (arith, v.whole)

  now-own : (m : ℕ) → m ≡ n → stand_in (means_now w n d) m ≡ d
  now-own m e = ap (stand_in (means_now w n d)) e ∙ get_or-set_same w n d others in_range_lem

  now-other : (m : ℕ) → (m ≡ n → ⊥) → stand_in (means_now w n d) m ≡ stand_in w m
  now-other m e = get_or-set_other w n m d others e

  -- what is left after d is left before
  lost : (e : ℕ) → (Memᴰ e c → ⊥) → Memᴰ e (left_after d c) → ⊥
  lost e f m = f (left-part d c e m).0

  new-meaning : (m : ℕ) → m < most_names → Dec (m ≡ n)
      → (stand_in (means_now w n d) m ≡ others) ⊎
      (Memᴰ (stand_in (means_now w n d) m) (dynamics us) × (Memᴰ (stand_in (means_now w n d) m) (left_after d c) → ⊥))
  new-meaning m l (yes e) = rw (now-own m e) (go (new-cases us v.left new))
    where
      go : (d ≡ others) ⊎ (Memᴰ d (dynamics us) × Memᴰ d c)
          → (d ≡ others) ⊎ (Memᴰ d (dynamics us) × (Memᴰ d (left_after d c) → ⊥))
      go (inl k) = inl k
      go (inr (i, j)) = inr (i, λ k. (left-part d c d k).1 refl)
  new-meaning m l (no e) = rw (now-other m e) (go (v.meaning m l))
    where
      go : (stand_in w m ≡ others) ⊎ (Memᴰ (stand_in w m) (dynamics us) × (Memᴰ (stand_in w m) c → ⊥))
          → (stand_in w m ≡ others) ⊎ (Memᴰ (stand_in w m) (dynamics us) × (Memᴰ (stand_in w m) (left_after d c) → ⊥))
      go (inl k) = inl k
      go (inr (i, j)) = inr (i, lost (stand_in w m) j)

  -- no name stand_in d before, unless d is another
  fresh-one : (m : ℕ) → m < most_names → stand_in w m ≡ d → d ≡ others
  fresh-one m l e = go (new-cases us v.left new) (v.meaning m l)
    where
      go : (d ≡ others) ⊎ (Memᴰ d (dynamics us) × Memᴰ d c)
          → (stand_in w m ≡ others) ⊎ (Memᴰ (stand_in w m) (dynamics us) × (Memᴰ (stand_in w m) c → ⊥)) → d ≡ others
      go (inl k) h = k
      go (inr k) (inl h) = sym e ∙ h
      go (inr (i, j)) (inr (h, f)) = absurd (f (subst (λ (t : ℕ). Memᴰ t c) (sym e) j))

  new-once : (m k : ℕ) → m < most_names → k < most_names → Dec (m ≡ n) → Dec (k ≡ n) → stand_in (means_now w n d) m ≡ stand_in (means_now w n d) k
      → (m ≡ k) ⊎ (stand_in (means_now w n d) m ≡ others)
  new-once m k l j (yes e) (yes f) h = inl (e ∙ sym f)
  new-once m k l j (yes e) (no f) h = inr (now-own m e ∙ fresh-one k j (sym (now-other k f) ∙ sym h ∙ now-own m e))
  new-once m k l j (no e) (yes f) h = inr (h ∙ now-own k f ∙ fresh-one m l (sym (now-other m e) ∙ h ∙ now-own k f))
  new-once m k l j (no e) (no f) h = go (v.once m k l j (sym (now-other m e) ∙ h ∙ now-other k f))
    where
      go : (m ≡ k) ⊎ (stand_in w m ≡ others) → (m ≡ k) ⊎ (stand_in (means_now w n d) m ≡ others)
      go (inl g) = inl g
      go (inr g) = inr (now-other m e ∙ g)

  view-new : View us (means_now w n d) (left_after d c)
  view-new = record {
    whole = length-set w n d ∙ v.whole;
    meaning = λ m l. new-meaning m l (ℕ_discrete m n);
    once = λ m k l j h. new-once m k l j (ℕ_discrete m n) (ℕ_discrete k n) h;
    left = λ e m. v.left e (left-part d c e m).0;
    ordered = ordered-after d v.ordered;
  }

view-begins : (us : List ℕ) → View us no_meaning (dynamics us)
view-begins us = record {
  whole = refl;
  meaning = λ m l. inl (none-meant m);
  once = λ m k l j e. inr (none-meant m);
  left = λ d m. m;
  ordered = ordered-dynamics us;
}

view-makes : {us w w₁ c c₁ : List ℕ} {m d : ℕ} → m < most_names → MakesAny m d w c w₁ c₁ → View us w c → View us w₁ c₁
view-makes l (given new) v = view-new v l new

view-lasts : {us u w w₁ c c₁ : List ℕ} {m d : ℕ} → MakesAny m d w c w₁ c₁ → View us u c → View us u c₁
view-lasts {us} {u} (given {d = d} {c = c} new) v = record {
  whole = v.whole;
  meaning = λ m l. go m (v.meaning m l);
  once = v.once;
  left = λ e m. v.left e (left-part d c e m).0;
  ordered = ordered-after d v.ordered;
}
  where
    go : (m : ℕ) → (stand_in u m ≡ others) ⊎ (Memᴰ (stand_in u m) (dynamics us) × (Memᴰ (stand_in u m) c → ⊥))
        → (stand_in u m ≡ others) ⊎ (Memᴰ (stand_in u m) (dynamics us) × (Memᴰ (stand_in u m) (left_after d c) → ⊥))
    go m (inl e) = inl e
    go m (inr (i, f)) = inr (i, λ j. f (left-part d c (stand_in u m) j).0)

pub views-keeps : (us : List ℕ) → Keeps (views us)
views-keeps us = record { begins = view-begins us; makes = λ l y h. view-makes l y h; lasts = λ y h. view-lasts y h }

-- any sight tells itself
pub self-renders : (us : List ℕ) → Renders (views us) (views us)
self-renders us = record {
  meaning = λ w. w;
  left = λ c. c;
  watches = refl;
  stands = λ w c m l o. refl;
  to = λ l h y. y;
  back = λ l h f g y. back f g y;
  first_meaning = refl;
  first_left = refl;
  one = λ c d e. e;
}
  where
    back : {m d : ℕ} {w v v₁ c e e₁ : List ℕ} → v ≡ w → e ≡ c → MakesAny m d v e v₁ e₁
        → (w₁ : List ℕ) × (c₁ : List ℕ) × (v₁ ≡ w₁) × (e₁ ≡ c₁) × MakesAny m d w c w₁ c₁
    back {m} {d} {w} {v} {v₁} {c} {e} {e₁} f g y =
        (v₁, e₁, refl, refl, subst (λ (t : List ℕ). MakesAny m d t c v₁ e₁) f (subst (λ (t : List ℕ). MakesAny m d v t v₁ e₁) g y))

-- the stand-ins that a policy asks for, 17 or 290
abbrev pub all_views : (es : List Edge) (p : ℕ) → Sights es p
all_views es p = record {
  Choice = (us : List ℕ) × Chosen es p us;
  sight = λ i. views i.0;
  stand-ins = λ i. i.0;
  chosen = λ i. i.1;
  every = λ us c. ((us, c), refl);
  keeps = λ i. views-keeps i.0;
  renders = λ i. self-renders i.0;
}
