-- One watched resource by two numbers: what that keeps, and that it tells what the stand-ins do. So the account of a policy that is no pair
-- policy is that of one watched resource, 0 to 16, by two numbers.
use Prim.Native.Nat.{ℕ, zero, suc, ◌<◌, ◌≤◌}
use mathlib.Core.Path.{◌≡◌, refl, sym, ◌∙◌, ap, subst}
use mathlib.Core.Bool.{Bool, true, false, cond}
use mathlib.Core.List.Memᴰ
use mathlib.Core.List.{List, [], ◌∷◌, Memᴰ}
use mathlib.Core.Logic.{◌⊎◌, inl, inr}
use native.Mathlib.Omega.{arith}
use native.Mathlib.Decide.{ℕ_discrete, dec_lt}
use lib.Dec.{ltb}
use lib.ListN.{length}
use lib.Seq.{get_or-set_same, get_or-set_other, ext_get_or}
use borrow.Author.Tests.{eq-eqb, ne_eqb, lt-ltb}
use Rattle.usage.specs.declared.Edge.{Edge}
use Rattle.usage.specs.Limits.{statics, most_names}
use Rattle.usage.specs.Policy.{PairPolicy, Instance, single, pair}
use Rattle.usage.specs.Tests.{some_of}
use Rattle.usage.proofs.Logic.{clash, false-true}
use Rattle.checker_account.specs.Account.{watched, watched_too, others}
use Rattle.checker_account.specs.Single.{no_name, meant, forget, MakesOne, other, own, OneOccurs, watching}
use Rattle.checker_account.specs.Views.{Watched, one, no_meaning, stand_in, means_now, keep_if, dynamics, left_after, New, another}
use Rattle.checker_account.specs.Views.{awaited, MakesAny, given, views}
use Rattle.checker_account.proofs.Meaning.{meant-own, meant-other, forget-same, forget-other}
use Rattle.checker_account.proofs.BegunLaws.{Keeps}
use Rattle.checker_account.proofs.RendersLaws.{Renders}
use Rattle.checker_account.proofs.SightsLaws.{Sights}

-- ── What occurs ──

module _ (x : ℕ) where
  one-makes : {m d w w₁ : ℕ} {c c₁ : Bool} → m < most_names → MakesOne x m d w c w₁ c₁ → OneOccurs x w c → OneOccurs x w₁ c₁
  one-makes l (other {m = m} {w = w} {c = c}) h = go (ℕ_discrete w m)
    where
      go : Dec (w ≡ m) → OneOccurs x (forget w m) c
      go (yes e) = rw (forget-same w m e) (record { name = omega arith; unmade = λ f. refl; static = λ f. (refl, (h.static f).1) })
      go (no d) = rw (forget-other w m d) h
  one-makes l own h = record { name = omega arith; unmade = λ e. false-true (sym e); static = λ f. false-true (h.static f).1 }

  one-lasts : {m d v w w₁ : ℕ} {c c₁ : Bool} → MakesOne x m d w c w₁ c₁ → OneOccurs x v c → OneOccurs x v c₁
  one-lasts other h = h
  one-lasts own h = record { name = h.name; unmade = λ e. false-true (sym e); static = λ f. false-true (h.static f).1 }

  pub watching-keeps : Keeps (watching x)
  watching-keeps = record {
    begins = record { name = omega arith; unmade = λ e. refl; static = λ l. (refl, lt-ltb x statics l) };
    makes = λ l y h. one-makes l y h;
    lasts = λ y h. one-lasts y h;
  }

-- ── The stand-ins that two numbers tell ──

abbrev pub names_of : ℕ → ℕ → List ℕ
names_of x w = meant x w 0 ∷ meant x w 1 ∷ meant x w 2 ∷ meant x w 3 ∷ []

abbrev pub left_of : ℕ → Bool → List ℕ
left_of x c = cond c [] (x ∷ [])

-- the four names
names-meant : (x w m : ℕ) → m < most_names → stand_in (names_of x w) m ≡ meant x w m
names-meant x w zero l = refl
names-meant x w (suc zero) l = refl
names-meant x w (suc (suc zero)) l = refl
names-meant x w (suc (suc (suc zero))) l = refl
names-meant x w (suc (suc (suc (suc m)))) l = absurd (omega arith)

names-none : (x : ℕ) → names_of x no_name ≡ no_meaning
names-none x = ext_get_or others (names_of x no_name) no_meaning refl (λ i l. go i l)
  where
    none-meant : (i : ℕ) → stand_in no_meaning i ≡ others
    none-meant zero = refl
    none-meant (suc zero) = refl
    none-meant (suc (suc zero)) = refl
    none-meant (suc (suc (suc zero))) = refl
    none-meant (suc (suc (suc (suc i)))) = refl

    go : (i : ℕ) → i < most_names → stand_in (names_of x no_name) i ≡ stand_in no_meaning i
    go i l = names-meant x no_name i l ∙ meant-other x no_name i (λ e. omega arith) ∙ sym (none-meant i)

module _ (x w n d v : ℕ) (l : n < most_names) (is-d : meant x v n ≡ d)
    (same : (i : ℕ) → i < most_names → (i ≡ n → ⊥) → meant x v i ≡ meant x w i) where
  means-as : means_now (names_of x w) n d ≡ names_of x v
  means-as = ext_get_or others (means_now (names_of x w) n d) (names_of x v) (length-four n l) (λ i k. go i (four i k) (ℕ_discrete i n))
    where
      length-four : (n : ℕ) → n < most_names → length (means_now (names_of x w) n d) ≡ most_names
      length-four zero l = refl
      length-four (suc zero) l = refl
      length-four (suc (suc zero)) l = refl
      length-four (suc (suc (suc zero))) l = refl
      length-four (suc (suc (suc (suc n)))) l = absurd (omega arith)

      four : (i : ℕ) → i < length (means_now (names_of x w) n d) → i < most_names
      four i k = subst (λ (t : ℕ). i < t) (length-four n l) k

      in_four : n < length (names_of x w)
      in_four = l

      go : (i : ℕ) → i < most_names → Dec (i ≡ n) → stand_in (means_now (names_of x w) n d) i ≡ stand_in (names_of x v) i
      go i k (yes e) =
          ap (stand_in (means_now (names_of x w) n d)) e ∙ get_or-set_same (names_of x w) n d others in_four
          ∙ sym (ap (stand_in (names_of x v)) e ∙ names-meant x v n l ∙ is-d)
      go i k (no e) = get_or-set_other (names_of x w) n i d others e ∙ names-meant x w i k ∙ sym (names-meant x v i k ∙ same i k e)

-- name n is given to another resource
names-other : (x w n : ℕ) → n < most_names → means_now (names_of x w) n others ≡ names_of x (forget w n)
names-other x w n l = go (ℕ_discrete w n)
  where
    go : Dec (w ≡ n) → means_now (names_of x w) n others ≡ names_of x (forget w n)
    go (yes e) =
        let g = forget-same w n e in
        means-as x w n others (forget w n) l (meant-other x (forget w n) n (λ f. omega arith))
        (λ i k d. meant-other x (forget w n) i (λ f. omega arith) ∙ sym (meant-other x w i (λ f. d (sym f ∙ e))))
    go (no e) =
        means-as x w n others (forget w n) l (meant-other x (forget w n) n (λ f. e (sym (forget-other w n e) ∙ f)))
        (λ i k d. ap (λ (t : ℕ). meant x t i) (forget-other w n e))

-- name n is given to x, which no name meant
names-own : (x w n : ℕ) → n < most_names → w ≡ no_name → means_now (names_of x w) n x ≡ names_of x n
names-own x w n l e =
    means-as x w n x n l (meant-own x n n refl) (λ i k d. meant-other x n i (λ f. d (sym f)) ∙ sym (meant-other x w i (λ f. omega arith)))

-- what is left
left-begin : (x : ℕ) → x ≤ watched → left_of x (ltb x statics) ≡ dynamics (x ∷ [])
unfolding keep_if some_of
left-begin x small = go (dec_lt x statics)
  where
    go : Dec (x < statics) → left_of x (ltb x statics) ≡ dynamics (x ∷ [])
    go (yes l) = rw (lt-ltb x statics l, ne_eqb x watched (λ e. omega arith), ne_eqb x watched_too (λ e. omega arith)) refl
    go (no l) = let e : x ≡ watched = omega arith in rw e refl

left_other : (x : ℕ) (c : Bool) → x ≤ watched → left_after others (left_of x c) ≡ left_of x c
unfolding keep_if
left_other x true small = refl
left_other x false small = rw (ne_eqb x others (λ e. omega arith)) refl

left-own : (x : ℕ) → left_after x (left_of x false) ≡ left_of x true
unfolding keep_if
left-own x = rw (eq-eqb x x refl) refl

left-same : (x : ℕ) (c d : Bool) → left_of x c ≡ left_of x d → c ≡ d
left-same x true true e = refl
left-same x true false e = clash (ap length e)
left-same x false true e = clash (sym (ap length e))
left-same x false false e = refl

-- a new resource is another, or x
new-one : (x : ℕ) (c : Bool) (d : ℕ) {C : List ℕ} → C ≡ left_of x c → New C d → (d ≡ others) ⊎ ((d ≡ x) × (c ≡ false))
new-one x c d e another = inl refl
new-one x true d e (awaited m) = absurd (Memᴰ.not-nil (subst (λ (t : List ℕ). Memᴰ d t) e m))
new-one x false d e (awaited m) = inr (Memᴰ.eq_of_singleton (subst (λ (t : List ℕ). Memᴰ d t) e m), refl)

module _ (x : ℕ) (small : x ≤ watched) where
  given-as : {m d : ℕ} {w v c e : List ℕ} → means_now w m d ≡ v → left_after d c ≡ e → New c d → MakesAny m d w c v e
  given-as {m} {d} {w} {v} {c} {e} f g n =
      subst (λ (t : List ℕ). MakesAny m d w c v t) g (subst (λ (t : List ℕ). MakesAny m d w c t (left_after d c)) f (given n))

  to-stand-ins : {m d w w₁ : ℕ} {c c₁ : Bool} → m < most_names → OneOccurs x w c → MakesOne x m d w c w₁ c₁
      → MakesAny m d (names_of x w) (left_of x c) (names_of x w₁) (left_of x c₁)
  to-stand-ins l h (other {m = m} {w = w} {c = c}) = given-as (names-other x w m l) (left_other x c small) another
  to-stand-ins l h (own {m = m} {w = w}) = given-as (names-own x w m l (h.unmade refl)) (left-own x) (awaited (Memᴰ.head refl))

  abbrev Told : ℕ → ℕ → ℕ → Bool → List ℕ → List ℕ → Type 0
  Told m d w c v₁ e₁ = (w₁ : ℕ) × (c₁ : Bool) × (v₁ ≡ names_of x w₁) × (e₁ ≡ left_of x c₁) × MakesOne x m d w c w₁ c₁

  from-stand-ins : {m d w : ℕ} {c : Bool} {v v₁ e e₁ : List ℕ} → m < most_names → OneOccurs x w c → v ≡ names_of x w → e ≡ left_of x c
      → MakesAny m d v e v₁ e₁ → Told m d w c v₁ e₁
  from-stand-ins {w = w} {c = c} l h f g (given {m = m} {d = d} {w = v} {c = e} new) = go (new-one x c d g new)
    where
      go : (d ≡ others) ⊎ ((d ≡ x) × (c ≡ false)) → Told m d w c (means_now v m d) (left_after d e)
      go (inl j) = subst (λ (t : ℕ). Told m t w c (means_now v m t) (left_after t e)) (sym j) (
        forget w m,
        c,
        ap (λ (t : List ℕ). means_now t m others) f ∙ names-other x w m l,
        ap (left_after others) g ∙ left_other x c small,
        other,
      )
      go (inr (j, y)) =
          subst (λ (t : ℕ). Told m t w c (means_now v m t) (left_after t e)) (sym j)
          (subst (λ (b : Bool). Told m x w b (means_now v m x) (left_after x e)) (sym y) (
            m,
            true,
            ap (λ (t : List ℕ). means_now t m x) f ∙ names-own x w m l (h.unmade y),
            ap (left_after x) (g ∙ ap (left_of x) y) ∙ left-own x,
            own,
          ))

  pub watching-renders : Renders (watching x) (views (x ∷ []))
  watching-renders = record {
    meaning = names_of x;
    left = left_of x;
    watches = refl;
    stands = λ w c m l o. sym (names-meant x w m l);
    to = λ l h y. to-stand-ins l h y;
    back = λ l h f g y. from-stand-ins l h f g y;
    first_meaning = names-none x;
    first_left = left-begin x small;
    one = left-same x;
  }

-- ── The sights of a policy that is no pair policy: 17 ──

module _ (es : List Edge) (p : ℕ) (alone : PairPolicy es p → ⊥) where
  pub one_of : {us : List ℕ} → Watched us → Instance es p us → (i : (x : ℕ) × (x ≤ watched)) × (i.0 ∷ [] ≡ us)
  one_of (one {x = x} l) i = ((x, l), refl)
  one_of (Watched.two l k) (pair h) = absurd (alone h)
  one_of Watched.apart (pair h) = absurd (alone h)

  abbrev pub singles : Sights es p
  singles = record {
    Choice = (x : ℕ) × (x ≤ watched);
    sight = λ i. watching i.0;
    stand-ins = λ i. i.0 ∷ [];
    chosen = λ i. record { watches = one i.1; fits = single alone };
    every = λ us c. one_of c.watches c.fits;
    keeps = λ i. watching-keeps i.0;
    renders = λ i. watching-renders i.0 i.1;
  }
