-- A static resource that no event is on need not be watched: its instance sees every event as one on another resource, just as that of the
-- dynamic resource does in a run that never creates it.
use Prim.Native.Nat.{ℕ, suc, ◌<◌}
use mathlib.Core.Path.{◌≡◌, refl, sym, ap, ◌∙◌, subst}
use mathlib.Core.Bool.{Bool, true, false, cond}
use mathlib.Core.List.{List, [], ◌∷◌}
use native.Mathlib.Omega.{arith}
use lib.Dec.{eqb}
use borrow.Author.Tests.{lt-ltb}
use Rattle.usage.specs.declared.Edge.{Edge}
use Rattle.usage.specs.declared.Node.{Node}
use Rattle.usage.specs.Limits.{create, statics}
use Rattle.usage.specs.Policy.{Sees, Moves, EdgesOk}
use Rattle.usage.specs.Outline.{Is, static_event, named_event}
use Rattle.usage.proofs.Logic.{false-true}
use Rattle.checker_account.specs.Account.{watched, others, Aim, ended, Last, Goes, Comes, Hits}
use Rattle.checker_account.specs.Single.{no_name, meant, forget, MakesOne, watching}
use Rattle.checker_account.proofs.Scoped.{Scoped}
use Rattle.checker_account.proofs.Carry.{Same, same-one, carry}
use Rattle.checker_account.proofs.Meaning.{meant-other}
use Rattle.checker_account.proofs.Starts.{stays-made}

-- the same aim, the watched resource being never created
abbrev pub never_made : Aim Bool → Aim Bool
never_made (ended c q) = ended false q
never_made (Aim.broken u) = Aim.broken u

forget-none : (m : ℕ) → forget no_name m ≡ no_name
unfolding forget
forget-none m = go (eqb no_name m)
  where
    go : (b : Bool) → cond b no_name no_name ≡ no_name
    go true = refl
    go false = refl

module _ (local : Bool) (es : List Edge) (ns : List Node) (p x : ℕ) (scope : ℕ → ℕ → Type 0) (edges : EdgesOk es)
    (outline : Scoped ns scope)
    (static : x < statics) (no_event : (k a : ℕ) → Is ns k (static_event a x) → ⊥) where
  -- ── Both instances see an event alike ──

  static-same : {k a s : ℕ} → Is ns k (static_event a s) → Same (x ∷ []) s (watched ∷ []) s
  static-same {k} {a} {s} i =
      let l = outline.static-small i in
      same-one (λ e. absurd (no_event k a (subst (λ (r : ℕ). Is ns k (static_event a r)) e i))) (λ e. absurd (omega arith)) (λ v l e. e)
      (λ v l e. e)

  other-same : Same (x ∷ []) others (watched ∷ []) others
  other-same = same-one (λ e. absurd (omega arith)) (λ e. absurd (omega arith)) (λ v l e. e) (λ v l e. e)

  name-moves : {k a m w q q' : ℕ} → Is ns k (named_event a m) → w ≡ no_name → Moves es p a (Sees (x ∷ []) (meant x w m)) q q'
      → Moves es p a (Sees (watched ∷ []) (meant watched no_name m)) q q'
  name-moves {a = a} {m = m} {w = w} {q = q} {q' = q'} i e v =
      let l = outline.name-small i in
      let d : no_name ≡ m → ⊥ = λ f. omega arith in
      let own : meant x w m ≡ others = ap (λ (w : ℕ). meant x w m) e ∙ meant-other x no_name m d in
      subst (λ (r : ℕ). Moves es p a (Sees (watched ∷ []) r) q q') (sym (meant-other watched no_name m d))
      (carry edges other-same (subst (λ (r : ℕ). Moves es p a (Sees (x ∷ []) r) q q') own v))

  -- a new resource where x counts as made is another than x
  record Another (w m d w' : ℕ) (c c' : Bool) : Type 0 where
    new : d ≡ others
    meaning : w' ≡ forget w m
    left : c' ≡ c

  another : {m d w w' : ℕ} {c c' : Bool} → MakesOne x m d w c w' c' → c ≡ true → Another w m d w' c c'
  another MakesOne.other e = record { new = refl; meaning = refl; left = refl }
  another MakesOne.own e = false-true e

  new-moves : {d q q' : ℕ} → d ≡ others → Moves es p create (Sees (x ∷ []) d) q q' → Moves es p create (Sees (watched ∷ []) others) q q'
  new-moves {d} {q} {q'} e v = carry edges other-same (subst (λ (r : ℕ). Moves es p create (Sees (x ∷ []) r) q q') e v)

  -- ── The account of x is one of the watched dynamic resource, in as many steps ──

  forgets : {w : ℕ} (m : ℕ) → w ≡ no_name → forget w m ≡ no_name
  forgets m e = ap (λ (w : ℕ). forget w m) e ∙ forget-none m

  pub goes-watched : {n : ℕ} {o : Bool} {k w : ℕ} {c : Bool} {q : ℕ} {t : Aim Bool} → Goes local es ns p (watching x) n o k w c q t
      → w ≡ no_name → c ≡ true
      → Goes local es ns p (watching watched) n o k no_name false q (never_made t)
  goes-watched (Goes.ends i) e d = Goes.ends i
  goes-watched (Goes.fires_static i v) e d = Goes.fires_static i (carry edges (static-same i) v)
  goes-watched (Goes.fires_name i v) e d = Goes.fires_name i (name-moves i e v)
  goes-watched (Goes.sequences i f g) e d = Goes.sequences i (goes-watched f e d) (goes-watched g e (stays-made f d))
  goes-watched (Goes.chooses_left i f) e d = Goes.chooses_left i (goes-watched f e d)
  goes-watched (Goes.chooses_right i f) e d = Goes.chooses_right i (goes-watched f e d)
  goes-watched (Goes.enters i f) e d = Goes.enters i (goes-watched f e d)
  goes-watched (Goes.repeats i f) e d = Goes.repeats i (goes-watched f e d)
  goes-watched (Goes.makes {n = n} {m = m} {b = b} {q₁ = q₁} {o = o} {t = t} i y v f) e d =
      let a = another y d in
      Goes.makes i MakesOne.other (new-moves a.new v)
      (subst (λ (w : ℕ). Goes local es ns p (watching watched) n o b w false q₁ (never_made t)) (sym (forget-none m))
      (goes-watched f (a.meaning ∙ forgets m e) (a.left ∙ d)))
  goes-watched (Goes.sandboxes i f) e d = Goes.sandboxes i (goes-watched f e d)
  goes-watched (Goes.breaks_static i v f z) e d = Goes.breaks_static i (carry edges (static-same i) v) f z
  goes-watched (Goes.breaks_name i v f z) e d = Goes.breaks_name i (name-moves i e v) f z
  goes-watched (Goes.breaks_fresh i y v f z) e d = Goes.breaks_fresh i MakesOne.other (new-moves (another y d).new v) f z
  goes-watched (Goes.breaks_opening i f z) e d = Goes.breaks_opening i f z
  goes-watched (Goes.breaks_first i f) e d = Goes.breaks_first i (goes-watched f e d)
  goes-watched (Goes.breaks_inside i f) e d = Goes.breaks_inside i (goes-watched f e d)

  -- what is come to: no name means x, x counts as made, and the dynamic resource is never created
  pub comes-watched : {n : ℕ} {o : Bool} {k w : ℕ} {c : Bool} {q : ℕ} → Comes local es ns p (watching x) n o k w c q
      → (w ≡ no_name) × (c ≡ true) × Comes local es ns p (watching watched) n o k no_name false q
  comes-watched Comes.begins = (refl, lt-ltb x statics static, Comes.begins)
  comes-watched (Comes.first i h) = let (e, d, g) = comes-watched h in (e, d, Comes.first i g)
  comes-watched (Comes.second i h f) =
      let (e, d, g) = comes-watched h in
      (e, stays-made f d, Comes.second i g (goes-watched f e d))
  comes-watched (Comes.left i h) = let (e, d, g) = comes-watched h in (e, d, Comes.left i g)
  comes-watched (Comes.right i h) = let (e, d, g) = comes-watched h in (e, d, Comes.right i g)
  comes-watched (Comes.body i h) = let (e, d, g) = comes-watched h in (e, d, Comes.body i g)
  comes-watched (Comes.again i h) = let (e, d, g) = comes-watched h in (e, d, Comes.again i g)
  comes-watched (Comes.created {n = n} {m = m} {b = b} {q₁ = q₁} {o = o} i y h v) =
      let (e, d, g) = comes-watched h in
      let a = another y d in (
        a.meaning ∙ forgets m e,
        a.left ∙ d,
        subst (λ (w : ℕ). Comes local es ns p (watching watched) (suc n) o b w false q₁) (forget-none m)
            (Comes.created i MakesOne.other g (new-moves a.new v)),
      )
  comes-watched (Comes.inside i h) = let (e, d, g) = comes-watched h in (e, d, Comes.inside i g)

  pub hits-watched : {n : ℕ} {last : Last} → Hits local es ns p (watching x) n last → Hits local es ns p (watching watched) n last
  hits-watched (Hits.at_static i h v f) = Hits.at_static i (comes-watched h).2 (carry edges (static-same i) v) f
  hits-watched (Hits.at_name i h v f) = let (e, d, g) = comes-watched h in Hits.at_name i g (name-moves i e v) f
  hits-watched (Hits.at_fresh i y h v f) =
      let (e, d, g) = comes-watched h in Hits.at_fresh i MakesOne.other g (new-moves (another y d).new v) f
  hits-watched (Hits.at_opening i h f) = Hits.at_opening i (comes-watched h).2 f
