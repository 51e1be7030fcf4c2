-- The tables for one watched resource, as those who keep it by two numbers (Single.antt) read them: an entry is a meaning.
use Prim.Native.Nat.{ℕ, ◌<◌, ◌≤◌}
use mathlib.Core.Path.{◌≡◌, refl, sym, ap, ◌∙◌, subst}
use mathlib.Core.Bool.{Bool, true, false, not, ◌||◌, cond, true≢false}
use mathlib.Core.List.{List, [], ◌∷◌}
use mathlib.Core.Logic.{◌↔◌}
use native.Mathlib.Omega.{arith}
use native.Mathlib.Decide.{dec_lt}
use lib.Dec.{eqb, ltb}
use borrow.Author.Tests.{eqb-true, eq-eqb, ne_eqb, lt-ltb, le-ltb}
use Rattle.usage.specs.declared.Edge.{Edge}
use Rattle.usage.specs.declared.Node.{Node}
use Rattle.usage.specs.Limits.{statics, create, states, most_nodes, most_names}
use Rattle.usage.specs.Policy.{Sees, Moves, EdgesOk}
use Rattle.usage.specs.Outline.{Is, static_event, named_event, fresh}
use Rattle.usage.specs.Tests.{Decides, some_of}
use Rattle.usage.proofs.Decides.{d-map}
use Rattle.automaton.specs.Mask.{has}
use Rattle.checker_account.specs.Account.{watched, watched_too, others, Last, Comes, Hits}
use Rattle.checker_account.specs.Single.{no_name, meant, forget, MakesOne, OneOccurs, watching}
use Rattle.checker_account.specs.Pairs.{which, MakesTwo, is_watched, numbers}
use Rattle.checker_account.specs.Tables.{nothing, one_resource, watched_by, unnamed, meanings, name_of, made, meaning_in, least, codes_of}
use Rattle.checker_account.specs.Tables.{Rows}
use Rattle.checker_account.specs.Filling.{Forms, FormsOf, one, Searched}
use Rattle.checker_account.specs.Holds.{Start, RowsOk, NamesOk, TargetsOk, HasCome, HoldsComes}
use Rattle.checker_account.proofs.RendersLaws.{Renders, to-comes, hits-rendered}
use Rattle.checker_account.proofs.SingleLaws.{watching-keeps}
use Rattle.checker_account.proofs.EntryLaws.{both}
use Rattle.checker_account.proofs.SearchLaws.{searched}

-- ── Its least meaning, and those that occur ──

-- of a static resource no meaning but the last occurs
pub one-least : (x : ℕ) → x ≤ watched → least (one_resource x) ≡ cond (ltb x statics) unnamed 0
unfolding least
one-least x small = go (dec_lt x statics)
  where
    go : Dec (x < statics) → cond (eqb x watched || false) 0 unnamed ≡ cond (ltb x statics) unnamed 0
    go (yes l) = ap (λ (b : Bool). cond (b || false) 0 unnamed) (ne_eqb x watched (λ e. omega arith))
        ∙ sym (ap (λ (b : Bool). cond b unnamed 0) (lt-ltb x statics l))
    go (no l) = ap (λ (b : Bool). cond (b || false) 0 unnamed) (eq-eqb x watched (omega arith))
        ∙ sym (ap (λ (b : Bool). cond b unnamed 0) (le-ltb x statics (omega arith)))

one-codes : (x : ℕ) → codes_of (one_resource x) ≡ meanings
unfolding codes_of
one-codes x = refl

pub start-any : (x m : ℕ) → statics ≤ x → x ≤ watched → m < meanings → Start (one_resource x) m
start-any x m big small h =
    let e = one-least x small ∙ ap (λ (b : Bool). cond b unnamed 0) (le-ltb x statics big) in
    let f = one-codes x in
    record { low = omega arith; high = omega arith }

pub start-unnamed : (x : ℕ) → Start (one_resource x) unnamed
unfolding least
start-unnamed x = let f = one-codes x in record { low = go (eqb x watched || false); high = omega arith }
  where
    go : (b : Bool) → cond b 0 unnamed ≤ unnamed
    go true = omega arith
    go false = omega arith

-- ── The two sights ──

forget-none : (n : ℕ) → n < most_names → forget no_name n ≡ no_name
unfolding forget
forget-none n l = ap (λ (b : Bool). cond b no_name no_name) (ne_eqb no_name n (λ e. omega arith))

module _ (x : ℕ) (small : x ≤ watched) where
  abbrev as_two : ℕ → ℕ × ℕ
  as_two w = (w, no_name)

  abbrev left_two : Bool → Bool × Bool
  left_two c = (c, true)

  -- a dynamic one that is meant by a name or can be created is 16
  unmade-is : {w : ℕ} {c : Bool} → OneOccurs x w c → c ≡ false → x ≡ watched
  unmade-is h e = go (dec_lt x statics)
    where
      go : Dec (x < statics) → x ≡ watched
      go (yes l) = absurd (true≢false (sym (h.static l).1 ∙ e))
      go (no l) = omega arith

  stands-as : (w : ℕ) (c : Bool) (n : ℕ) → n < most_names → OneOccurs x w c → meant x w n ≡ which (as_two w) n
  unfolding meant which
  stands-as w c n l h = go (eqb w n) refl
    where
      is : w ≡ n → x ≡ watched
      is e = static (dec_lt x statics)
        where
          static : Dec (x < statics) → x ≡ watched
          static (yes k) = absurd (let f = (h.static k).0 in omega arith)
          static (no k) = omega arith

      go : (b : Bool) → eqb w n ≡ b → cond b x others ≡ cond b watched (cond (eqb no_name n) watched_too others)
      go true e = is (eqb-true w n e)
      go false e = sym (ap (λ (b : Bool). cond b watched_too others) (ne_eqb no_name n (λ f. omega arith)))

  makes-as : {n d : ℕ} {w v v₁ : ℕ × ℕ} {c e : Bool × Bool} → v ≡ v₁ → MakesTwo n d w c v e → MakesTwo n d w c v₁ e
  makes-as {n} {d} {w} {v} {v₁} {c} {e} f m = subst (λ (v : ℕ × ℕ). MakesTwo n d w c v e) f m

  to-two : {n d w w₁ : ℕ} {c c₁ : Bool} → n < most_names → OneOccurs x w c → MakesOne x n d w c w₁ c₁
      → MakesTwo n d (as_two w) (left_two c) (as_two w₁) (left_two c₁)
  to-two l h (MakesOne.other {m = n} {w = w}) = makes-as (both refl (forget-none n l)) MakesTwo.other
  to-two l h (MakesOne.own {m = n} {w = w}) =
      subst (λ (d : ℕ). MakesTwo n d (as_two w) (left_two false) (as_two n) (left_two true)) (sym (unmade-is h refl))
      (makes-as (both refl (forget-none n l)) MakesTwo.first)

  abbrev Told : ℕ → ℕ → ℕ → Bool → ℕ × ℕ → Bool × Bool → Type 0
  Told n d w c v₁ e₁ = (w₁ : ℕ) × (c₁ : Bool) × (v₁ ≡ as_two w₁) × (e₁ ≡ left_two c₁) × MakesOne x n d w c w₁ c₁

  from-two : {n d w : ℕ} {c : Bool} {v v₁ : ℕ × ℕ} {e e₁ : Bool × Bool} → n < most_names → OneOccurs x w c → v ≡ as_two w → e ≡ left_two c
      → MakesTwo n d v e v₁ e₁ → Told n d w c v₁ e₁
  from-two {w = w} {c = c} l h f g (MakesTwo.other {m = n} {a = a} {b = b} {c = a₁} {d = b₁}) = (
    forget w n,
    c,
    both (ap (λ (z : ℕ × ℕ). forget z.0 n) f) (ap (λ (z : ℕ × ℕ). forget z.1 n) f ∙ forget-none n l),
    g,
    MakesOne.other,
  )
  from-two {w = w} {c = c} l h f g (MakesTwo.first {m = n} {a = a} {b = b} {d = b₁}) =
      let e : c ≡ false = sym (ap (λ (z : Bool × Bool). z.0) g) in
      subst (λ (c : Bool). Told n watched w c (n, forget b n) (true, b₁)) (sym e)
      (subst (λ (d : ℕ). Told n d w false (n, forget b n) (true, b₁)) (unmade-is h e)
      (n, true, both refl (ap (λ (z : ℕ × ℕ). forget z.1 n) f ∙ forget-none n l), both refl (ap (λ (z : Bool × Bool). z.1) g), MakesOne.own))
  from-two l h f g (MakesTwo.second) = absurd (true≢false (sym (ap (λ (z : Bool × Bool). z.1) g)))

  begins-as : ◌≡◌ {A = Bool × Bool} (ltb x statics, true) (not (is_watched (x ∷ []) watched), not (is_watched (x ∷ []) watched_too))
  unfolding some_of
  begins-as = both (go (dec_lt x statics)) (sym (ap (λ (b : Bool). not (b || false)) (ne_eqb x watched_too (λ e. omega arith))))
    where
      go : Dec (x < statics) → ltb x statics ≡ not (eqb x watched || false)
      go (yes l) = lt-ltb x statics l ∙ sym (ap (λ (b : Bool). not (b || false)) (ne_eqb x watched (λ e. omega arith)))
      go (no l) = le-ltb x statics (omega arith) ∙ sym (ap (λ (b : Bool). not (b || false)) (eq-eqb x watched (omega arith)))

  one-renders : Renders (watching x) (numbers (watched_by (one_resource x)))
  unfolding watched_by
  one-renders = record {
    meaning = as_two;
    left = left_two;
    watches = refl;
    stands = stands-as;
    to = λ l h y. to-two l h y;
    back = λ l h f g y. from-two l h f g y;
    first_meaning = refl;
    first_left = begins-as;
    one = λ c d e. ap (λ (z : Bool × Bool). z.0) e;
  }

  -- ── What the tables say ──

  module _ (local : Bool) (es : List Edge) (ns : List Node) (p : ℕ) (edges : EdgesOk es) (names : NamesOk ns) where
    -- a start that is come to is in the table, by its meaning
    pub record Met (u : List ℕ) (o : Bool) (k w : ℕ) (c : Bool) (q : ℕ) : Type 0 where
      pub meaning : ℕ
      pub name : name_of meaning ≡ w
      pub made : made meaning ≡ c
      pub entered : HasCome u k o meaning q

    pub one-come : (u : List ℕ) → HoldsComes local es ns p (one_resource x) u → {n : ℕ} {o : Bool} {k w : ℕ} {c : Bool} {q : ℕ}
        → Comes local es ns p (watching x) n o k w c q → Met u o k w c q
    unfolding one-renders
    one-come u holds come =
        let h = holds.full
        (to-comes local es ns p (watching x) (numbers (watched_by (one_resource x))) (watching-keeps x) one-renders edges names come) in
        let f = one-codes x in
        let l = h.start.high in
        let e : meaning_in h.code ≡ h.code = omega arith in
        record {
          meaning = h.code;
          name = ap name_of (sym e) ∙ ap (λ (z : ℕ × ℕ). z.0) h.names;
          made = ap made (sym e) ∙ ap (λ (z : Bool × Bool). z.0) h.made;
          entered = h.entered;
        }

    pub one-searched : (rows : Rows) → RowsOk es ns p (one_resource x) rows → TargetsOk ns → (n : ℕ) (forms : Forms) → n ≤ most_nodes
        → FormsOf ns n forms → (answer : Bool) → Searched local rows p (one_resource x) n forms answer
        → Decides answer ((last : Last) × (m : ℕ) × Hits local es ns p (watching x) m last)
    one-searched rows ok targets n forms few reads answer h =
        let at : (m : ℕ) (last : Last) → Hits local es ns p (watching x) m last ↔ Hits local es ns p (numbers (watched_by (one_resource x))) m last =
        λ m last. hits-rendered local es ns p (watching x) (numbers (watched_by (one_resource x))) (watching-keeps x) one-renders edges names m last in
        d-map (searched local es ns p (one_resource x) (one small) rows edges ok names targets n forms few reads answer h)
        (λ (last, t). (last, t.0, (at t.0 last).1 t.1)) (λ (last, m, t). (last, (m, (at m last).0 t)))

-- ── Its rows ──

module _ {es : List Edge} {ns : List Node} {p x : ℕ} {rows : Rows} (ok : RowsOk es ns p (one_resource x) rows) (names : NamesOk ns)
    (small : x ≤ watched) where
  -- an event on the watched resource or not
  abbrev Row : ℕ → ℕ → Bool → ℕ → Type 0
  Row k a own r = (q q' : ℕ) → q < states → q' < states → (has (rows k own false q) q' ≡ true) ↔ Moves es p a (Sees (x ∷ []) r) q q'

  as_row : (k a r : ℕ) (own : Bool) → r ≤ others → eqb r x ≡ own
      → ((q q' : ℕ) → q < states → q' < states
      → (has (rows k (eqb r x) (eqb r nothing) q) q' ≡ true) ↔ Moves es p a (Sees (watched_by (one_resource x)) r) q q')
      → Row k a own r
  unfolding watched_by
  as_row k a r own l e h =
      subst (λ (b : Bool). Row k a b r) e
      (subst (λ (b : Bool). (q q' : ℕ) → q < states → q' < states → (has (rows k (eqb r x) b q) q' ≡ true) ↔ Moves es p a (Sees (x ∷ []) r) q q')
      (ne_eqb r nothing (λ f. omega arith)) h)

  pub one-static : {k a s : ℕ} → Is ns k (static_event a s) → Row k a (eqb s x) s
  one-static {k} {a} {s} i = let l = names.static i in as_row k a s (eqb s x) (omega arith) refl (ok.static i)

  -- the stand-in of what a name means: x, which is dynamic then, or another
  stand-in : (own : Bool) → (own ≡ true → x ≡ watched) → (watched ≤ cond own x others) × (cond own x others ≤ others)
  stand-in true e = let f = e refl in (omega arith, omega arith)
  stand-in false e = (omega arith, omega arith)

  own_is : (own : Bool) → eqb (cond own x others) x ≡ own
  own_is true = eq-eqb x x refl
  own_is false = ne_eqb others x (λ e. omega arith)

  pub one_name : {k a n : ℕ} → Is ns k (named_event a n) → (own : Bool) → (own ≡ true → x ≡ watched) → Row k a own (cond own x others)
  one_name {k} {a} i own e =
      let d = stand-in own e in as_row k a (cond own x others) own d.1 (own_is own) (ok.name i (cond own x others) d)

  pub one-created : {k n b : ℕ} → Is ns k (fresh n b) → (own : Bool) → (own ≡ true → x ≡ watched) → Row k create own (cond own x others)
  one-created {k} i own e =
      let d = stand-in own e in as_row k create (cond own x others) own d.1 (own_is own) (ok.created i (cond own x others) d)
