-- What is written down along the account is a trace, numbered 16, 17 and on, and it does what the account says.
use Prim.Native.Nat.{ℕ, suc, ◌+◌, ◌<◌, ◌≤◌}
use mathlib.Core.Path.{◌≡◌, refl, sym, ◌∙◌, ap, subst}
use mathlib.Core.Bool.{Bool, true, false, ◌||◌, or-true}
use mathlib.Core.Option.{Option, some}
use mathlib.Core.List.Memᴰ
use mathlib.Core.List.{List, [], ◌∷◌, map, Memᴰ}
use mathlib.Core.Logic.{◌⊎◌, inl, inr}
use native.Mathlib.Omega.{arith}
use native.Mathlib.Decide.{ℕ_discrete, dec_lt}
use lib.Dec.{eqb, ltb}
use borrow.Author.Tests.{ltb-true, eq-eqb, ne_eqb}
use Rattle.usage.specs.declared.Edge.{Edge}
use Rattle.usage.specs.declared.Node.{Node}
use Rattle.usage.specs.Limits.{statics, create}
use Rattle.usage.specs.Policy.{Place, Sees, Moves, Offending, EdgesOk}
use Rattle.usage.specs.Past.{Step, event, opening, closing, Past, add_if, count, creates, is_open, reopened, May, start, moved, opened}
use Rattle.usage.specs.Past.{closed, Occurs, Violates, Numbered}
use Rattle.usage.specs.Outline.{Is, named_event, fresh, Names, no_names, give, Part, node, close, Advance, Runs, IsTrace}
use Rattle.usage.proofs.Logic.{clash, by_cases}
use Rattle.usage.proofs.SeesLaws.{place_map, place-unmap, place-listed, listed-place, somewhere?, Somewhere, instance-map}
use Rattle.usage.proofs.PastLaws.{occurs-later, may-places}
use Rattle.usage.proofs.TraceLaws.{closings-to-run}
use Rattle.checker_account.specs.Account.{watched, watched_too, others, Last, Counts, Aim, ended, broken, Made, an_event, its_opening}
use Rattle.checker_account.specs.Views.{Watched, one, two, apart, Chosen, no_meaning, stand_in, means_now, dynamics, left_after, New}
use Rattle.checker_account.specs.Views.{another, awaited, views, given}
use Rattle.checker_account.specs.Written.{next, Written}
use Rattle.checker_account.proofs.Scoped.{Scoped}
use Rattle.checker_account.proofs.Carry.{Same, carry}
use Rattle.checker_account.proofs.Meaning.{left-part, still-left, Means, means-none, means-change, means-give, Known, known-none}
use Rattle.checker_account.proofs.Meaning.{known_more, known-give}
use Rattle.checker_account.proofs.Standing.{in-dynamics, of-dynamics}
use Rattle.checker_account.proofs.Unclosed.{open_more, unclosed-open, open-level}

-- what occurs once the newest step is taken away

same-resource : (a r b s : ℕ) → ◌≡◌ {A = Step} (event a r) (event b s) → r ≡ s
same-resource a r b s e = cc

not-opening : (a r s : ℕ) → ◌≡◌ {A = Step} (event a r) (opening s) → ⊥
not-opening a r s e = clash (cc)

not-closing : (a r s : ℕ) → ◌≡◌ {A = Step} (event a r) (closing s) → ⊥
not-closing a r s e = clash (cc)

pub occurs-none : (r : ℕ) → Occurs r [] → ⊥
occurs-none r o = Memᴰ.not-nil o.1

pub occurs-event : (r a s : ℕ) (past : Past) → Occurs r (event a s ∷ past) → (r ≡ s) ⊎ Occurs r past
occurs-event r a s past (b, m) = go (Memᴰ.cases_cons m)
  where
    go : (◌≡◌ {A = Step} (event b r) (event a s)) ⊎ Memᴰ (event b r) past → (r ≡ s) ⊎ Occurs r past
    go (inl e) = inl (same-resource b r a s e)
    go (inr m) = inr (b, m)

pub occurs-opening : (r s : ℕ) (past : Past) → Occurs r (opening s ∷ past) → Occurs r past
occurs-opening r s past (b, m) = go (Memᴰ.cases_cons m)
  where
    go : (◌≡◌ {A = Step} (event b r) (opening s)) ⊎ Memᴰ (event b r) past → Occurs r past
    go (inl e) = absurd (not-opening b r s e)
    go (inr m) = (b, m)

pub occurs-closing : (r s : ℕ) (past : Past) → Occurs r (closing s ∷ past) → Occurs r past
occurs-closing r s past (b, m) = go (Memᴰ.cases_cons m)
  where
    go : (◌≡◌ {A = Step} (event b r) (closing s)) ⊎ Memᴰ (event b r) past → Occurs r past
    go (inl e) = absurd (not-closing b r s e)
    go (inr m) = (b, m)

-- the numbers of fresh resources

next-event : (a r : ℕ) (past : Past) → 1 ≤ a → next (event a r ∷ past) ≡ next past
unfolding count
next-event a r past l = ap (λ (b : Bool). statics + add_if b (creates past)) (ne_eqb a create (λ e. omega arith))

next-create : (r : ℕ) (past : Past) → next (event create r ∷ past) ≡ suc (next past)
unfolding count
next-create r past = omega arith

next-opening : (s : ℕ) (past : Past) → next (opening s ∷ past) ≡ next past
unfolding count
next-opening s past = refl

next-closing : (s : ℕ) (past : Past) → next (closing s ∷ past) ≡ next past
unfolding count
next-closing s past = refl

next-dynamic : (past : Past) → statics ≤ next past
next-dynamic past = omega arith

listed? : (u : ℕ) (c : List ℕ) → Dec (Memᴰ u c)
listed? u c = go (somewhere? c u)
  where
    go : Dec (Somewhere c u) → Dec (Memᴰ u c)
    go (yes (i, e)) = yes (place-listed c i u e)
    go (no d) = no (λ m. d (listed-place m))

-- every stand-in of a watched resource is below 18
pub watched-small : {us : List ℕ} → Watched us → (u : ℕ) → Memᴰ u us → u < others
watched-small (one l) u m = let e = one_of m in omega arith
  where
    one_of : {x : ℕ} → Memᴰ u (x ∷ []) → u ≡ x
    one_of m = by_cases (Memᴰ.cases_cons m) (λ e. e) (λ i. absurd (Memᴰ.not-nil i))
watched-small (two {x = x} {y = y} l k) u m = go (Memᴰ.cases_cons m)
  where
    next_of : (u ≡ y) ⊎ Memᴰ u [] → u < others
    next_of (inl e) = omega arith
    next_of (inr i) = absurd (Memᴰ.not-nil i)

    go : (u ≡ x) ⊎ Memᴰ u (y ∷ []) → u < others
    go (inl e) = omega arith
    go (inr i) = next_of (Memᴰ.cases_cons i)
watched-small apart u m = go (Memᴰ.cases_cons m)
  where
    next_of : (u ≡ watched_too) ⊎ Memᴰ u [] → u < others
    next_of (inl e) = omega arith
    next_of (inr i) = absurd (Memᴰ.not-nil i)

    go : (u ≡ watched) ⊎ Memᴰ u (watched_too ∷ []) → u < others
    go (inl e) = omega arith
    go (inr i) = next_of (Memᴰ.cases_cons i)

module _ (local : Bool) (es : List Edge) (ns : List Node) (p : ℕ) (us : List ℕ) where
  -- f tells which resource each stand-in of us is of. Where one is not created yet, any number not yet given will do, but each another.
  record Watch (past : Past) (c : List ℕ) (q : ℕ) (f : ℕ → ℕ) : Type 0 where
    static : (u : ℕ) → u < statics → f u ≡ u
    dynamic : (u : ℕ) → Memᴰ u us → statics ≤ u → statics ≤ f u
    apart : (u v : ℕ) → Memᴰ u us → Memᴰ v us → f u ≡ f v → u ≡ v
    below : (r : ℕ) → Occurs r past → r < next past
    numbered : Numbered past
    made : (u : ℕ) → Memᴰ u us → (f u < next past) ⊎ Memᴰ u c
    awaits : (u : ℕ) → Memᴰ u c → Memᴰ u us × (statics ≤ u) × (next past ≤ f u)
    may : May local es p (Sees (map f us)) past q

  -- d stands for r: a static resource, a watched one, or any other dynamic one
  data As (f : ℕ → ℕ) (d r : ℕ) : Type 0 where
    unmoved : d ≡ r → r < statics → As f d r
    itself : Memᴰ d us → f d ≡ r → As f d r
    unwatched : d ≡ others → statics ≤ r → ((u : ℕ) → Memᴰ u us → f u ≡ r → ⊥) → As f d r

  -- what the names of a part mean
  record Named (past : Past) (names : Names) (f : ℕ → ℕ) (w : List ℕ) : Type 0 where
    means : Means (As f) names w
    known : Known past names

  -- from one past to a later one: each watched resource is the same, or neither was there at the first
  abbrev Keeps : Past → (ℕ → ℕ) → (ℕ → ℕ) → Type 0
  Keeps past f g = (u : ℕ) → Memᴰ u us → (f u ≡ g u) ⊎ ((next past ≤ f u) × (next past ≤ g u))

  record Onward (past : Past) (f : ℕ → ℕ) (after : Past) (g : ℕ → ℕ) : Type 0 where
    keeps : Keeps past f g
    more : (r : ℕ) → Occurs r past → Occurs r after
    grown : next past ≤ next after

  -- What was first has ended: the rest is still to run.
  record Done (past : Past) (f : ℕ → ℕ) (rest : List Part) (c : List ℕ) (q : ℕ) (after : Past) : Type 0 where
    g : ℕ → ℕ
    runs : Runs ns (record { past = after; parts = rest })
    watch : Watch after c q g
    onward : Onward past f after g

  -- The last step broke p.
  pub record Struck (u : Option Last) (after : Past) : Type 0 where
    pub last : Last
    pub counts : Counts u last
    pub step : Step
    pub past : Past
    pub made : Made p last step
    pub same : step ∷ past ≡ after
    pub trace : IsTrace ns (step ∷ past)
    pub violates : Violates local es p (step ∷ past)
    pub numbered : Numbered (step ∷ past)

  abbrev Got : Past → (ℕ → ℕ) → List Part → Aim (List ℕ) → Past → Type 0
  Got past f rest (ended c q) after = Done past f rest c q after
  Got past f rest (broken u) after = Struck u after

  keeps_then : (past past₁ : Past) (f g h : ℕ → ℕ) → next past ≤ next past₁ → Keeps past f g → Keeps past₁ g h → Keeps past f h
  keeps_then past past₁ f g h l a b u m = go (a u m) (b u m)
    where
      go : (f u ≡ g u) ⊎ ((next past ≤ f u) × (next past ≤ g u)) → (g u ≡ h u) ⊎ ((next past₁ ≤ g u) × (next past₁ ≤ h u))
          → (f u ≡ h u) ⊎ ((next past ≤ f u) × (next past ≤ h u))
      go (inl a) (inl b) = inl (a ∙ b)
      go (inl a) (inr b) = inr (omega arith, omega arith)
      go (inr a) (inl b) = inr (a.0, omega arith)
      go (inr a) (inr b) = inr (a.0, omega arith)

  onward_then : {past past₁ past₂ : Past} {f g h : ℕ → ℕ} → Onward past f past₁ g → Onward past₁ g past₂ h → Onward past f past₂ h
  onward_then {past} {past₁} {past₂} {f} {g} {h} a b = record {
    keeps = keeps_then past past₁ f g h a.grown a.keeps b.keeps;
    more = λ r o. b.more r (a.more r o);
    grown = omega (arith, a.grown, b.grown);
  }

  got-after : {past past₁ : Past} {f g : ℕ → ℕ} (rest : List Part) (t : Aim (List ℕ)) (after : Past) → Onward past f past₁ g
      → Got past₁ g rest t after → Got past f rest t after
  got-after rest (ended c q) after a d = record { g = d.g; runs = d.runs; watch = d.watch; onward = onward_then a d.onward }
  got-after rest (broken u) after a d = d

  onward-event : (a r : ℕ) (past : Past) (f : ℕ → ℕ) → next past ≤ next (event a r ∷ past) → Onward past f (event a r ∷ past) f
  onward-event a r past f l = record { keeps = λ u m. inl refl; more = λ t o. occurs-later o; grown = l }

  -- the names of a part, later on
  as-after : (past : Past) (f g : ℕ → ℕ) → Keeps past f g → (d r : ℕ) → r < next past → As f d r → As g d r
  as-after past f g keeps d r l (unmoved e k) = unmoved e k
  as-after past f g keeps d r l (itself m e) = go (keeps d m)
    where
      go : (f d ≡ g d) ⊎ ((next past ≤ f d) × (next past ≤ g d)) → As g d r
      go (inl a) = itself m (sym a ∙ e)
      go (inr (a, b)) = absurd (omega arith)
  as-after past f g keeps d r l (unwatched e k never) = unwatched e k (λ u m h. go u m h (keeps u m))
    where
      go : (u : ℕ) → Memᴰ u us → g u ≡ r → (f u ≡ g u) ⊎ ((next past ≤ f u) × (next past ≤ g u)) → ⊥
      go u m h (inl a) = never u m (a ∙ h)
      go u m h (inr (a, b)) = omega arith

  named-after : {past after : Past} {names : Names} {f g : ℕ → ℕ} {w : List ℕ} → ((r : ℕ) → Occurs r past → r < next past)
      → Onward past f after g
      → Named past names f w → Named after names g w
  named-after {past} {after} {names} {f} {g} below a h = record {
    means =
        means-change {P = As f} {Q = As g} (λ m d r e s. as-after past f g a.keeps d r (below r (h.known.occurs m r e)) s) h.means;
    known = record { dynamic = h.known.dynamic; occurs = λ m r e. a.more r (h.known.occurs m r e) };
  }

  -- ── The watched resources, after each step ──

  -- of those that are not there yet others can take the place
  rewatch : {past : Past} {c : List ℕ} {q : ℕ} {f : ℕ → ℕ} (g : ℕ → ℕ) → Keeps past f g → ((u : ℕ) → u < statics → g u ≡ u)
      → ((u : ℕ) → Memᴰ u us → statics ≤ u → statics ≤ g u) → ((u v : ℕ) → Memᴰ u us → Memᴰ v us → g u ≡ g v → u ≡ v)
      → ((u : ℕ) → Memᴰ u c → next past ≤ g u) → Watch past c q f → Watch past c q g
  rewatch {past} {c} {q} {f} g keeps static dynamic differ later h = record {
    static = static;
    dynamic = dynamic;
    apart = differ;
    below = h.below;
    numbered = h.numbered;
    made = λ u m. made u (keeps u m) (h.made u m);
    awaits = λ u m. ((h.awaits u m).0, (h.awaits u m).1, later u m);
    may = may-places (λ r o i. (there r o i, back r o i)) h.may;
  }
    where
      made : (u : ℕ) → (f u ≡ g u) ⊎ ((next past ≤ f u) × (next past ≤ g u)) → (f u < next past) ⊎ Memᴰ u c
          → (g u < next past) ⊎ Memᴰ u c
      made u (inl e) (inl l) = inl (omega arith)
      made u (inr (a, b)) (inl l) = absurd (omega arith)
      made u e (inr m) = inr m

      there : (r : ℕ) → Occurs r past → (i : ℕ) → Place (map f us) i r → Place (map g us) i r
      there r o i e = let (u, d, k) = place-unmap f us i r e in go u d k (keeps u (place-listed us i u d))
        where
          go : (u : ℕ) → Place us i u → f u ≡ r → (f u ≡ g u) ⊎ ((next past ≤ f u) × (next past ≤ g u)) → Place (map g us) i r
          go u d k (inl a) = subst (λ (t : ℕ). Place (map g us) i t) (sym a ∙ k) (place_map g us i u d)
          go u d k (inr (a, b)) = absurd (omega (arith, h.below r o))

      back : (r : ℕ) → Occurs r past → (i : ℕ) → Place (map g us) i r → Place (map f us) i r
      back r o i e = let (u, d, k) = place-unmap g us i r e in go u d k (keeps u (place-listed us i u d))
        where
          go : (u : ℕ) → Place us i u → g u ≡ r → (f u ≡ g u) ⊎ ((next past ≤ f u) × (next past ≤ g u)) → Place (map f us) i r
          go u d k (inl a) = subst (λ (t : ℕ). Place (map f us) i t) (a ∙ k) (place_map f us i u d)
          go u d k (inr (a, b)) = absurd (omega (arith, h.below r o))

  watch-event : {past : Past} {c : List ℕ} {q : ℕ} {f : ℕ → ℕ} {a r q' : ℕ} → 1 ≤ a → r < next past → Watch past c q f
      → Moves es p a (Sees (map f us) r) q q' → Watch (event a r ∷ past) c q' f
  watch-event {past} {c} {f = f} {a = a} {r = r} l k h v =
      let e = next-event a r past l in
      record {
        static = h.static;
        dynamic = h.dynamic;
        apart = h.apart;
        below = λ t o. go t (occurs-event t a r past o);
        numbered = (λ f. absurd (omega arith), h.numbered);
        made = λ u m. subst (λ (n : ℕ). (f u < n) ⊎ Memᴰ u c) (sym e) (h.made u m);
        awaits = λ u m. subst (λ (n : ℕ). Memᴰ u us × (statics ≤ u) × (n ≤ f u)) (sym e) (h.awaits u m);
        may = moved h.may v;
      }
    where
      go : (t : ℕ) → (t ≡ r) ⊎ Occurs t past → t < next (event a r ∷ past)
      go t (inl f) = omega (arith, next-event a r past l)
      go t (inr o) = omega (arith, next-event a r past l, h.below t o)

  below-create : {past : Past} (r : ℕ) → r ≡ next past → ((t : ℕ) → Occurs t past → t < next past) → (t : ℕ)
      → Occurs t (event create r ∷ past) → t < next (event create r ∷ past)
  below-create {past} r e h t o = go (occurs-event t create r past o)
    where
      go : (t ≡ r) ⊎ Occurs t past → t < next (event create r ∷ past)
      go (inl f) = omega (arith, next-create r past)
      go (inr o) = omega (arith, next-create r past, h t o)

  watch-opening : {past : Past} {c : List ℕ} {o : Bool} {q : ℕ} {f : ℕ → ℕ} (s : ℕ) → is_open p past ≡ o → Watch past c q f
      → Watch (opening s ∷ past) c (reopened local p s o q) f
  watch-opening {past} {c} {q = q} {f = f} s e h = record {
    static = h.static;
    dynamic = h.dynamic;
    apart = h.apart;
    below = λ t o. omega (arith, next-opening s past, h.below t (occurs-opening t s past o));
    numbered = h.numbered;
    made = λ u m. subst (λ (n : ℕ). (f u < n) ⊎ Memᴰ u c) (sym (next-opening s past)) (h.made u m);
    awaits = λ u m. subst (λ (n : ℕ). Memᴰ u us × (statics ≤ u) × (n ≤ f u)) (sym (next-opening s past)) (h.awaits u m);
    may = subst (λ (b : Bool). May local es p (Sees (map f us)) (opening s ∷ past) (reopened local p s b q)) e (opened h.may);
  }

  watch-closing : {past : Past} {c : List ℕ} {q : ℕ} {f : ℕ → ℕ} (s : ℕ) → Watch past c q f → Watch (closing s ∷ past) c q f
  watch-closing {past} {c} {f = f} s h = record {
    static = h.static;
    dynamic = h.dynamic;
    apart = h.apart;
    below = λ t o. omega (arith, next-closing s past, h.below t (occurs-closing t s past o));
    numbered = h.numbered;
    made = λ u m. subst (λ (n : ℕ). (f u < n) ⊎ Memᴰ u c) (sym (next-closing s past)) (h.made u m);
    awaits = λ u m. subst (λ (n : ℕ). Memᴰ u us × (statics ≤ u) × (n ≤ f u)) (sym (next-closing s past)) (h.awaits u m);
    may = closed h.may;
  }

  module _ (scope : ℕ → ℕ → Type 0) (edges : EdgesOk es) (outline : Scoped ns scope) (chosen : Chosen es p us) where
    small : (u : ℕ) → Memᴰ u us → u < others
    small = watched-small chosen.watches

    -- ── The moves of the watched instance ──

    -- a resource that a watched one is of is static only as itself
    static-of : {past : Past} {c : List ℕ} {q : ℕ} {f : ℕ → ℕ} → Watch past c q f → (u r : ℕ) → Memᴰ u us → f u ≡ r → r < statics
        → u ≡ r
    static-of {f = f} h u r m e l = go (dec_lt u statics)
      where
        go : Dec (u < statics) → u ≡ r
        go (yes k) = sym (h.static u k) ∙ e
        go (no k) = absurd (let b = h.dynamic u m (omega arith) in omega arith)

    same-as : {past : Past} {c : List ℕ} {q : ℕ} {f : ℕ → ℕ} → Watch past c q f → {d r : ℕ} → As f d r → Same us d (map f us) r
    same-as {f = f} h {d} {r} (unmoved e l) = record {
      to = λ i k. subst (λ (t : ℕ). Place (map f us) i t) (h.static d (omega arith) ∙ e) (place_map f us i d k);
      «from» = λ i k. let (u, j, g) = place-unmap f us i r k in subst (λ (t : ℕ). Place us i t)
          (static-of h u r (place-listed us i u j) g l ∙ sym e) j;
      static-to = λ v k g. sym e ∙ g;
      static-from = λ v k g. e ∙ g;
    }
    same-as {f = f} h {d} {r} (itself m e) = record {
      to = λ i k. subst (λ (t : ℕ). Place (map f us) i t) e (place_map f us i d k);
      «from» = λ i k. let (u, j, g) = place-unmap f us i r k in subst (λ (t : ℕ). Place us i t)
          (h.apart u d (place-listed us i u j) m (g ∙ sym e)) j;
      static-to = λ v k g. let s : d < statics = omega arith in sym e ∙ h.static d s ∙ g;
      static-from = λ v k g. static-of h d v m (e ∙ g) k;
    }
    same-as {f = f} h {d} {r} (unwatched e l never) = record {
      to = λ i k. absurd (let s = small d (place-listed us i d k) in omega arith);
      «from» = λ i k. absurd (let (u, j, g) = place-unmap f us i r k in never u (place-listed us i u j) g);
      static-to = λ v k g. absurd (omega arith);
      static-from = λ v k g. absurd (omega arith);
    }

    real : {past : Past} {c : List ℕ} {q : ℕ} {f : ℕ → ℕ} → Watch past c q f → {d r a t t' : ℕ} → As f d r → Moves es p a (Sees us d) t t'
        → Moves es p a (Sees (map f us) r) t t'
    real h s v = carry edges (same-as h s) v

    real-static : {past : Past} {c : List ℕ} {q : ℕ} {f : ℕ → ℕ} → Watch past c q f → {s a q' : ℕ} → s < statics
        → Moves es p a (Sees us s) q q' → Moves es p a (Sees (map f us) s) q q'
    real-static h l v = real h (unmoved refl l) v

    real-name : {past : Past} {names : Names} {c : List ℕ} {q : ℕ} {f : ℕ → ℕ} {w : List ℕ} → Watch past c q f → Named past names f w
        → {k a m r q' : ℕ} → Is ns k (named_event a m) → names m ≡ some r
        → Moves es p a (Sees us (stand_in w m)) q q' → Moves es p a (Sees (map f us) r) q q'
    real-name h g {m = m} {r = r} i e v = real h (g.means.stands m r (outline.name-small i) e) v

    name_below : {past : Past} {names : Names} {c : List ℕ} {q : ℕ} {f : ℕ → ℕ} {w : List ℕ} {m r : ℕ} → Watch past c q f
        → Named past names f w → names m ≡ some r → r < next past
    name_below {m = m} {r = r} h g e = h.below r (g.known.occurs m r e)

    -- ── Creating ──

    -- d is what is created: another resource, or a watched one
    record Creates (past : Past) (c : List ℕ) (f : ℕ → ℕ) (d : ℕ) : Type 0 where
      big : statics ≤ d
      which : (d ≡ others) ⊎ Memᴰ d c

    creates-new : {past : Past} {c : List ℕ} {q : ℕ} {f : ℕ → ℕ} {d : ℕ} → Watch past c q f → New c d → Creates past c f d
    creates-new h another = record { big = omega arith; which = inl refl }
    creates-new h (awaited {d = d} m) = record { big = (h.awaits d m).1; which = inr m }

    module _ {past : Past} {c : List ℕ} {q : ℕ} {f : ℕ → ℕ} (h : Watch past c q f) (d : ℕ) (new : Creates past c f d) where
      -- It takes the next number. Those that are still not created take later ones, each another.
      choose : (u : ℕ) → Dec (u ≡ d) → Dec (Memᴰ u c) → ℕ
      choose u (yes e) m = next past
      choose u (no e) (yes m) = suc (next past + u)
      choose u (no e) (no m) = f u

      g : ℕ → ℕ
      g u = choose u (ℕ_discrete u d) (listed? u c)

      data Chose (u : ℕ) : ℕ → Type 0 where
        now : u ≡ d → Chose u (next past)
        later : (u ≡ d → ⊥) → Memᴰ u c → Chose u (suc (next past + u))
        before : (u ≡ d → ⊥) → (Memᴰ u c → ⊥) → Chose u (f u)

      chose-by : (u : ℕ) (a : Dec (u ≡ d)) (b : Dec (Memᴰ u c)) → Chose u (choose u a b)
      unfolding choose
      chose-by u (yes e) m = now e
      chose-by u (no e) (yes m) = later e m
      chose-by u (no e) (no m) = before e m

      chose : (u : ℕ) → Chose u (g u)
      unfolding g
      chose u = chose-by u (ℕ_discrete u d) (listed? u c)

      -- what is watched and not left was created before
      old : (u : ℕ) → Memᴰ u us → (Memᴰ u c → ⊥) → f u < next past
      old u m n = by_cases (h.made u m) (λ l. l) (λ i. absurd (n i))

      g_static : {u s : ℕ} → Chose u s → u < statics → s ≡ u
      g_static (now e) l = absurd (let b = new.big in omega arith)
      g_static {u} (later e m) l = absurd (let b = (h.awaits u m).1 in omega arith)
      g_static {u} (before e m) l = h.static u l

      g-dynamic : {u s : ℕ} → Chose u s → Memᴰ u us → statics ≤ u → statics ≤ s
      g-dynamic (now e) i l = next-dynamic past
      g-dynamic (later e m) i l = omega arith
      g-dynamic {u} (before e m) i l = h.dynamic u i l

      g-apart : {u v s t : ℕ} → Chose u s → Chose v t → Memᴰ u us → Memᴰ v us → s ≡ t → u ≡ v
      g-apart (now e) (now k) i j a = e ∙ sym k
      g-apart (now e) (later k m) i j a = absurd (omega arith)
      g-apart {v = v} (now e) (before k m) i j a = absurd (let b = old v j m in omega arith)
      g-apart (later e m) (now k) i j a = absurd (omega arith)
      g-apart (later e m) (later k n) i j a = omega arith
      g-apart {v = v} (later e m) (before k n) i j a = absurd (let b = old v j n in omega arith)
      g-apart {u} (before e m) (now k) i j a = absurd (let b = old u i m in omega arith)
      g-apart {u} (before e m) (later k n) i j a = absurd (let b = old u i m in omega arith)
      g-apart {u} {v} (before e m) (before k n) i j a = h.apart u v i j a

      -- d, where it is watched, was not created
      was-left : (u : ℕ) → Memᴰ u us → u ≡ d → Memᴰ u c
      was-left u i e = go new.which
        where
          go : (d ≡ others) ⊎ Memᴰ d c → Memᴰ u c
          go (inl k) = absurd (let l = small u i in omega arith)
          go (inr m) = subst (λ (t : ℕ). Memᴰ t c) (sym e) m

      g-keeps : {u s : ℕ} → Chose u s → Memᴰ u us → (f u ≡ s) ⊎ ((next past ≤ f u) × (next past ≤ s))
      g-keeps {u} (now e) i = inr ((h.awaits u (was-left u i e)).2, omega arith)
      g-keeps {u} (later e m) i = inr ((h.awaits u m).2, omega arith)
      g-keeps (before e m) i = inl refl

      g-later : {u s : ℕ} → Chose u s → Memᴰ u c → next past ≤ s
      g-later (now e) i = omega arith
      g-later (later e m) i = omega arith
      g-later (before e m) i = absurd (m i)

      chosen-watch : Watch past c q g
      chosen-watch = rewatch g (λ u m. g-keeps (chose u) m) (λ u l. g_static (chose u) l) (λ u m l. g-dynamic (chose u) m l)
          (λ u v i j e. g-apart (chose u) (chose v) i j e) (λ u m. g-later (chose u) m) h

      -- d stands for the next number
      g-other : {u s : ℕ} → Chose u s → Memᴰ u us → d ≡ others → s ≡ next past → ⊥
      g-other {u} (now e) i k a = let l = small u i in omega arith
      g-other (later e m) i k a = omega arith
      g-other {u} (before e m) i k a = let b = old u i m in omega arith

      g-own : {u s : ℕ} → Chose u s → u ≡ d → s ≡ next past
      g-own (now e) k = refl
      g-own (later e m) k = absurd (e k)
      g-own (before e m) k = absurd (e k)

      as-new : As g d (next past)
      as-new = go new.which
        where
          go : (d ≡ others) ⊎ Memᴰ d c → As g d (next past)
          go (inl e) = unwatched e (next-dynamic past) (λ u m k. g-other (chose u) m e k)
          go (inr m) = itself (h.awaits d m).0 (g-own (chose d) refl)

      -- and what is left takes later ones
      g-left : {u s : ℕ} → Chose u s → Memᴰ u c → (u ≡ d → ⊥) → suc (next past) ≤ s
      g-left (now e) i k = absurd (k e)
      g-left (later e m) i k = omega arith
      g-left (before e m) i k = absurd (m i)

      g-made : {u s : ℕ} → Chose u s → Memᴰ u us → (s < suc (next past)) ⊎ Memᴰ u (left_after d c)
      g-made (now e) i = inl (omega arith)
      g-made {u} (later e m) i = inr (still-left d c u m e)
      g-made {u} (before e m) i = inl (let b = old u i m in omega arith)

      created-watch : {q' : ℕ} → Moves es p create (Sees us d) q q' → Watch (event create (next past) ∷ past) (left_after d c) q' g
      created-watch v =
          let k = chosen-watch in
          let e = next-create (next past) past in
          record {
            static = k.static;
            dynamic = k.dynamic;
            apart = k.apart;
            below = below-create (next past) refl h.below;
            numbered = (λ f. refl, h.numbered);
            made = λ u m. subst (λ (n : ℕ). (g u < n) ⊎ Memᴰ u (left_after d c)) (sym e) (g-made (chose u) m);
            awaits = λ u m.
                let (i, j) = left-part d c u m in
                let (a, b, l) = h.awaits u i in
                subst (λ (n : ℕ). Memᴰ u us × (statics ≤ u) × (n ≤ g u)) (sym e) (a, b, g-left (chose u) i j);
            may = moved k.may (real k as-new v);
          }

      created-onward : Onward past f (event create (next past) ∷ past) g
      created-onward =
          record { keeps = λ u m. g-keeps (chose u) m; more = λ t o. occurs-later o; grown = omega (arith, next-create (next past) past) }

      created-named : {names : Names} {w : List ℕ} {k m b : ℕ} → Is ns k (fresh m b) → Named past names f w
          → Named (event create (next past) ∷ past) (give names m (next past)) g (means_now w m d)
      created-named {names} {w} {m = m} i a = record {
        means = means-give {P = As g} m d (next past) (outline.fresh-small i) as-new
            (means-change {P = As f} {Q = As g}
            (λ n e r j s. as-after past f g (λ u l. g-keeps (chose u) l) e r (h.below r (a.known.occurs n r j)) s) a.means);
        known = known-give m (next past) (next-dynamic past) a.known;
      }

    -- ── Whatever is written, some moves do ──

    -- p is open where its closing is still to run
    struck : {u : Option Last} {last : Last} {step : Step} {past : Past} {rest : List Part} {c : List ℕ} {q : ℕ} {f : ℕ → ℕ}
        → Made p last step → Counts u last
        → Runs ns (record { past = step ∷ past; parts = rest }) → ltb 0 (closings-to-run p rest) ≡ true
        → Watch (step ∷ past) c q f → Offending q → Struck u (step ∷ past)
    struck {last = last} {step = step} {past = past} {rest = rest} {q = q} {f = f} made z rs l h off = record {
      last = last;
      counts = z;
      step = step;
      past = past;
      made = made;
      same = refl;
      trace = (rest, rs);
      violates = (unclosed-open ns p rs (ltb-true 0 (closings-to-run p rest) l), (map f us, instance-map f chosen.fits, q, h.may, off));
      numbered = h.numbered;
    }

    done-step : {past : Past} {c : List ℕ} {q q' : ℕ} {f : ℕ → ℕ} {rest : List Part} (a r : ℕ) → 1 ≤ a → r < next past → Watch past c q f
        → Moves es p a (Sees (map f us) r) q q'
        → Runs ns (record { past = event a r ∷ past; parts = rest }) → Done past f rest c q' (event a r ∷ past)
    done-step {past} {f = f} a r l k h v rs = record {
      g = f;
      runs = rs;
      watch = watch-event l k h v;
      onward = onward-event a r past f (omega (arith, next-event a r past l));
    }

    done-closed : {past after : Past} {s : ℕ} {f : ℕ → ℕ} {rest : List Part} {c : List ℕ} {q : ℕ}
        → Done (opening s ∷ past) f (close s ∷ rest) c q after → Done past f rest c q (closing s ∷ after)
    done-closed {past} {after} {s} {f} d = record {
      g = d.g;
      runs = Runs.moved d.runs Advance.closes;
      watch = watch-closing s d.watch;
      onward = record {
        keeps = λ u m. subst (λ (n : ℕ). (f u ≡ d.g u) ⊎ ((n ≤ f u) × (n ≤ d.g u))) (next-opening s past) (d.onward.keeps u m);
        more = λ r o. occurs-later (d.onward.more r (occurs-later o));
        grown = omega (arith, next-opening s past, next-closing s after, d.onward.grown);
      };
    }

    inside-level : (s : ℕ) {o : Bool} (rest : List Part) → ltb 0 (closings-to-run p rest) ≡ o
        → ltb 0 (closings-to-run p (close s ∷ rest)) ≡ (o || eqb s p)
    unfolding closings-to-run
    inside-level s rest e = open_more (eqb s p) (closings-to-run p rest) ∙ ap (λ (t : Bool). t || eqb s p) e

    node-level : {past : Past} {k : ℕ} {names : Names} {rest : List Part} {o : Bool}
        → Runs ns (record { past = past; parts = node k names ∷ rest })
        → ltb 0 (closings-to-run p rest) ≡ o → is_open p past ≡ o
    unfolding closings-to-run
    node-level rs e = open-level ns p rs ∙ e

    opening-level : (o : Bool) → (o || eqb p p) ≡ true
    opening-level o = ap (λ (t : Bool). o || t) (eq-eqb p p refl) ∙ or-true o

    named-opening : {past : Past} {names : Names} {f : ℕ → ℕ} {w : List ℕ} (s : ℕ) → Named past names f w
        → Named (opening s ∷ past) names f w
    named-opening s g = record { means = g.means; known = known_more (opening s) g.known }

    runs-written : {n : ℕ} {o : Bool} {k : ℕ} {names : Names} {w c : List ℕ} {q : ℕ} {past : Past} {t : Aim (List ℕ)} {after : Past}
        → Written local es ns p (views us) n o k names w c q past t after → {f : ℕ → ℕ} → Watch past c q f → Named past names f w
        → {rest : List Part} → Runs ns (record { past = past; parts = node k names ∷ rest }) → ltb 0 (closings-to-run p rest) ≡ o
        → Got past f rest t after
    unfolding closings-to-run
    runs-written (Written.ends i) {f} h g rs l = record {
      g = f;
      runs = Runs.moved rs (Advance.ends i);
      watch = h;
      onward = record { keeps = λ u m. inl refl; more = λ r o. o; grown = omega arith };
    }
    runs-written (Written.fires_static {a = a} {s = s} {past = past} i v) h g rs l =
        let k = outline.static-small i in
        done-step a s (outline.static-acts i) (omega (arith, next-dynamic past)) h (real-static h k v)
        (Runs.moved rs (Advance.fires_static i))
    runs-written (Written.fires_name {a = a} {r = r} i e v) h g rs l =
        done-step a r (outline.name-acts i) (name_below h g e) h (real-name h g i e v) (Runs.moved rs (Advance.fires_name i e))
    runs-written (Written.sequences {past₂ = after} {t = t} i u v) h g {rest} rs l =
        let d = runs-written u h g (Runs.moved rs (Advance.sequences i)) l in
        got-after rest t after d.onward (runs-written v d.watch (named-after h.below d.onward g) d.runs l)
    runs-written (Written.chooses_left i u) h g rs l = runs-written u h g (Runs.moved rs (Advance.chooses_left i)) l
    runs-written (Written.chooses_right i u) h g rs l = runs-written u h g (Runs.moved rs (Advance.chooses_right i)) l
    runs-written (Written.enters i u) h g rs l = runs-written u h g (Runs.moved rs (Advance.enters i)) l
    runs-written (Written.repeats i u) h g rs l = runs-written u h g (Runs.moved rs (Advance.repeats i)) l
    runs-written (Written.makes {d = d} {past = past} {past₁ = after} {t = t} i (given new) v u) h g {rest} rs l =
        let a = creates-new h new in
        got-after rest t after (created-onward h d a)
        (runs-written u (created-watch h d a v) (created-named h d a i g)
        (Runs.moved rs (Advance.creates i (next-dynamic past) (λ o. omega (arith, h.below (next past) o)))) l)
    runs-written (Written.sandboxes {s = s} i u) h g {rest} rs l =
        done-closed (runs-written u (watch-opening s (node-level rs l) h) (named-opening s g) (Runs.moved rs (Advance.opens i))
        (inside-level s rest l))
    runs-written (Written.breaks_static {a = a} {s = s} {past = past} i v f z) h g rs l =
        let k = outline.static-small i in
        let u = watch-event (outline.static-acts i) (omega (arith, next-dynamic past)) h (real-static h k v) in
        struck an_event z (Runs.moved rs (Advance.fires_static i)) l u f
    runs-written (Written.breaks_name {a = a} {m = m} {r = r} i e v f z) h g rs l =
        let u = watch-event (outline.name-acts i) (name_below h g e) h (real-name h g i e v) in
        struck an_event z (Runs.moved rs (Advance.fires_name i e)) l u f
    runs-written (Written.breaks_fresh {d = d} {past = past} i (given new) v f z) h g rs l =
        let u = created-watch h d (creates-new h new) v in
        struck an_event z (Runs.moved rs (Advance.creates i (next-dynamic past) (λ o. omega (arith, h.below (next past) o)))) l u f
    runs-written (Written.breaks_opening {o = o} i f z) h g {rest} rs l =
        let u = watch-opening p (node-level rs l) h in
        struck its_opening z (Runs.moved rs (Advance.opens i)) (inside-level p rest l ∙ opening-level o) u f
    runs-written (Written.breaks_first i u) h g rs l =
        runs-written u h g (Runs.moved rs (Advance.sequences i)) l
    runs-written (Written.breaks_inside {s = s} i u) h g {rest} rs l =
        runs-written u (watch-opening s (node-level rs l) h) (named-opening s g) (Runs.moved rs (Advance.opens i)) (inside-level s rest l)

    -- from the start of the outline on: each stand-in is of the resource of its number
    at_first : ℕ → ℕ
    at_first u = u

    watch-begin : Watch [] (dynamics us) 0 at_first
    unfolding count at_first
    watch-begin = record {
      static = λ u l. refl;
      dynamic = λ u m l. l;
      apart = λ u v i j e. e;
      below = λ r o. absurd (occurs-none r o);
      numbered = tt;
      made = λ u m. go u m (dec_lt u statics);
      awaits = λ u m. let (i, l) = of-dynamics us u m in (i, l, l);
      may = start;
    }
      where
        go : (u : ℕ) → Memᴰ u us → Dec (u < statics) → (u < next []) ⊎ Memᴰ u (dynamics us)
        go u m (yes l) = inl l
        go u m (no l) = inr (in-dynamics us u m (omega arith) (small u m))

    pub written-struck : {n : ℕ} {u : Option Last} {after : Past}
        → Written local es ns p (views us) n false 0 no_names no_meaning (dynamics us) 0 [] (broken u) after → Struck u after
    unfolding closings-to-run
    written-struck u = runs-written u watch-begin (record { means = means-none (As at_first); known = known-none }) Runs.started refl
