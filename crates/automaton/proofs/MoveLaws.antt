-- What moving a set of states gives is where its members may move: first over any test of edges, then for one resource.
use Prim.Native.Nat.{ℕ, zero, suc, ◌<◌}
use mathlib.Core.Path.{◌≡◌, refl, sym, ap, ◌∙◌, subst}
use mathlib.Core.Bool.{Bool, true, false, ◌&&◌, ◌||◌, cond}
use mathlib.Core.Option.{Option, some}
use mathlib.Core.List.Memᴰ
use mathlib.Core.List.{List, [], ◌∷◌, Memᴰ}
use mathlib.Core.Logic.{◌⊎◌, inl, inr}
use lib.Dec.{eqb, lit<}
use lib.Bits.{bit_or, or_zero_l, or_lt}
use borrow.Author.Tests.{eq-eqb, eqb-true}
use Rattle.usage.specs.declared.Edge.{Edge}
use Rattle.usage.specs.Limits.{states}
use Rattle.usage.specs.Policy.{Sees, named, own, other, second, Moves, along, stays, EdgesOk}
use Rattle.usage.proofs.SeesLaws.{place-nowhere, place-one}
use Rattle.usage.proofs.Logic.{false-true, not-both, or_left, or_right, or_cases, and_left, and_right, and_both}
use Rattle.automaton.specs.Mask.{has, single}
use Rattle.automaton.specs.Move.{part, targets, image, move, labelled, fires, move_mask}
use Rattle.automaton.proofs.MaskLaws.{some_at, some-found, has-or, has-zero, has-single, single-lt, union-has, union-lt}

-- The same as a relation, over any property of an edge's label.
pub data Goes (F : Edge → Type 0) (es : List Edge) (q q' : ℕ) : Type 0 where
  follows : (e : Edge) → Memᴰ e es → F e → e.from ≡ q → e.to ≡ q' → Goes F es q q'
  remains : ((e : Edge) → Memᴰ e es → F e → e.from ≡ q → ⊥) → q ≡ q' → Goes F es q q'

-- an edge from q whose label matches
pub record Found (f : Edge → Bool) (es : List Edge) (q : ℕ) : Type 0 where
  pub edge : Edge
  pub there : Memᴰ edge es
  pub fires : f edge ≡ true
  pub leaves : edge.from ≡ q

cond-true : (b : Bool) (m n : ℕ) → b ≡ true → cond b m n ≡ m
cond-true b m n e = ap (λ c. cond c m n) e

-- every edge ends in a state 0 to 7
abbrev pub Ends : List Edge → Type 0
Ends es = (e : Edge) → Memᴰ e es → e.to < states

ends-tail : {e : Edge} {es : List Edge} → Ends (e ∷ es) → Ends es
ends-tail h e m = h e (Memᴰ.tail m)

module _ (f : Edge → Bool) where
  found_here : (e : Edge) (es : List Edge) (q : ℕ) → (f e && eqb e.from q) ≡ true → Found f (e ∷ es) q
  found_here e es q b =
      record {
        edge = e;
        there = Memᴰ.head refl;
        fires = and_left (f e) (eqb e.from q) b;
        leaves = eqb-true e.from q
            (and_right (f e) (eqb e.from q) b);
      }

  found-there : {e : Edge} {es : List Edge} {q : ℕ} → Found f es q → Found f (e ∷ es) q
  found-there r = record { edge = r.edge; there = Memᴰ.tail r.there; fires = r.fires; leaves = r.leaves }

  -- such an edge that leads to q'
  abbrev Hit : List Edge → ℕ → ℕ → Type 0
  Hit es q q' = (r : Found f es q) × (r.edge.to ≡ q')

  -- a target is the end of a matching edge
  target_found : (es : List Edge) (q q' : ℕ) → Ends es → q' < states → has (targets f es q) q' ≡ true → Hit es q q'
  unfolding targets found_here found-there
  target_found [] q q' v l h = not-both (has 0 q') h (has-zero q')
  target_found (e ∷ es) q q' v l h =
      go (target_found es q q' (ends-tail v) l)
      (or_cases (has (part f q e) q') (has (targets f es q) q') (sym (has-or (part f q e) (targets f es q) q') ∙ h))
    where
      here : (b : Bool) → (f e && eqb e.from q) ≡ b → has (cond b (single e.to) 0) q' ≡ true → Hit (e ∷ es) q q'
      here true b h = (found_here e es q b, eqb-true e.to q' (sym (has-single e.to q' (v e (Memᴰ.head refl)) l) ∙ h))
      here false b h = not-both (has 0 q') h (has-zero q')

      go : (has (targets f es q) q' ≡ true → Hit es q q') → (has (part f q e) q' ≡ true) ⊎ (has (targets f es q) q' ≡ true)
          → Hit (e ∷ es) q q'
      go ih (inl h) = here (f e && eqb e.from q) refl h
      go ih (inr h) = let r = ih h in (found-there r.0, r.1)

  -- the end of a matching edge is a target
  part_at : (e : Edge) → e.to < states → f e ≡ true → has (part f e.from e) e.to ≡ true
  part_at e l h =
      ap (λ (m : ℕ). has m e.to)
      (cond-true (f e && eqb e.from e.from) (single e.to) 0
      (and_both (f e) (eqb e.from e.from) h (eq-eqb e.from e.from refl)))
      ∙ has-single e.to e.to l l ∙ eq-eqb e.to e.to refl

  target_at : (es : List Edge) (e : Edge) → Ends es → Memᴰ e es → f e ≡ true → has (targets f es e.from) e.to ≡ true
  unfolding targets
  target_at [] e v m h = absurd (Memᴰ.not-nil m)
  target_at (d ∷ es) e v m h = has-or (part f e.from d) (targets f es e.from) e.to
      ∙ go (λ m. target_at es e (ends-tail v) m h) (Memᴰ.cases_cons m)
    where
      a : Bool
      a = has (part f e.from d) e.to

      b : Bool
      b = has (targets f es e.from) e.to

      go : (Memᴰ e es → b ≡ true) → (e ≡ d) ⊎ Memᴰ e es → (a || b) ≡ true
      go ih (inl p) = or_left a b (subst (λ (d : Edge). has (part f e.from d) e.to ≡ true) p (part_at e (v e m) h))
      go ih (inr m) = or_right a b (ih m)

  -- where there is a target there is a matching edge
  target-any : (es : List Edge) (q : ℕ) → eqb (targets f es q) 0 ≡ false → Found f es q
  unfolding targets
  target-any [] q h = false-true (sym h)
  target-any (e ∷ es) q h = go (f e && eqb e.from q) refl (target-any es q)
    where
      go : (b : Bool) → (f e && eqb e.from q) ≡ b → (eqb (targets f es q) 0 ≡ false → Found f es q) → Found f (e ∷ es) q
      go true b ih = found_here e es q b
      go false b ih =
          found-there
          (ih (ap (λ (m : ℕ). eqb m 0)
          (sym (or_zero_l (targets f es q)) ∙ ap (λ (c : Bool). bit_or (cond c (single e.to) 0) (targets f es q)) (sym b)) ∙ h))

  module _ (F : Edge → Type 0) (sound : (e : Edge) → f e ≡ true → F e) (full : (e : Edge) → F e → f e ≡ true) (es : List Edge)
      (v : Ends es) where
    image-found : (q q' : ℕ) → q < states → q' < states → has (image f es q) q' ≡ true → Goes F es q q'
    unfolding image
    image-found q q' l k h = go (eqb (targets f es q) 0) refl h
      where
        go : (b : Bool) → eqb (targets f es q) 0 ≡ b → has (cond b (single q) (targets f es q)) q' ≡ true → Goes F es q q'
        go true b h = remains (λ e m x p. not-both (has 0 e.to)
            (ap (λ (n : ℕ). has n e.to) (sym (eqb-true (targets f es q) 0 b)) ∙ ap (λ (q : ℕ). has (targets f es q) e.to) (sym p)
            ∙ target_at es e v m (full e x)) (has-zero e.to))
            (eqb-true q q' (sym (has-single q q' l k) ∙ h))
        go false b h = let r = target_found es q q' v k h in
            follows r.0.edge r.0.there (sound r.0.edge r.0.fires) r.0.leaves r.1

    image-at : (q q' : ℕ) → q < states → Goes F es q q' → has (image f es q) q' ≡ true
    unfolding image
    image-at q q' l (follows e m x p r) = go (eqb (targets f es q) 0) refl
      where
        at : has (targets f es q) q' ≡ true
        at = ap (λ (n : ℕ). has (targets f es q) n) (sym r) ∙ ap (λ (n : ℕ). has (targets f es n) e.to) (sym p)
            ∙ target_at es e v m (full e x)

        go : (b : Bool) → eqb (targets f es q) 0 ≡ b → has (cond b (single q) (targets f es q)) q' ≡ true
        go true b = not-both (has 0 q') (ap (λ (n : ℕ). has n q') (sym (eqb-true (targets f es q) 0 b)) ∙ at) (has-zero q')
        go false b = at
    image-at q q' l (remains n p) = go (eqb (targets f es q) 0) refl
      where
        go : (b : Bool) → eqb (targets f es q) 0 ≡ b → has (cond b (single q) (targets f es q)) q' ≡ true
        go true b = has-single q q' l (subst (λ (n : ℕ). n < states) p l) ∙ eq-eqb q q' p
        go false b = let r = target-any es q b in absurd (n r.edge r.there (sound r.edge r.fires) r.leaves)

    -- The set is moved as its members are.
    move-found : (m q' : ℕ) → q' < states → has (move f es m) q' ≡ true → (q : ℕ) × (q < states) × (has m q ≡ true) × Goes F es q q'
    unfolding move
    move-found m q' k h = let r = some-found 8 _ (sym (union-has 8 (λ q. cond (has m q) (image f es q) 0) q') ∙ h) in
        go r.0 r.1 (has m r.0) refl r.2
      where
        go : (q : ℕ) → q < states → (b : Bool) → has m q ≡ b → has (cond b (image f es q) 0) q' ≡ true
            → (q : ℕ) × (q < states) × (has m q ≡ true) × Goes F es q q'
        go q l true b h = (q, l, b, image-found q q' l k h)
        go q l false b h = not-both (has 0 q') h (has-zero q')

    move_at : (m q q' : ℕ) → q < states → has m q ≡ true → Goes F es q q' → has (move f es m) q' ≡ true
    unfolding move
    move_at m q q' l h g =
        union-has 8 (λ q. cond (has m q) (image f es q) 0) q'
        ∙ some_at 8 (λ q. has (cond (has m q) (image f es q) 0) q') q l
        (ap (λ (n : ℕ). has n q') (cond-true (has m q) (image f es q) 0 h) ∙ image-at q q' l g)

  targets-lt : (es : List Edge) (q : ℕ) → targets f es q < 256
  unfolding targets
  targets-lt [] q = lit< tt
  targets-lt (e ∷ es) q = or_lt 8 (part f q e) (targets f es q) (go (f e && eqb e.from q)) (targets-lt es q)
    where
      go : (b : Bool) → cond b (single e.to) 0 < 256
      go true = single-lt e.to
      go false = lit< tt

  pub image-lt : (es : List Edge) (q : ℕ) → image f es q < 256
  unfolding image
  image-lt es q = go (eqb (targets f es q) 0)
    where
      go : (b : Bool) → cond b (single q) (targets f es q) < 256
      go true = single-lt q
      go false = targets-lt es q

  -- a moved set is a byte again
  pub move-lt : (es : List Edge) (m : ℕ) → move f es m < 256
  unfolding move
  move-lt es m = union-lt 8 (λ q. cond (has m q) (image f es q) 0) (λ q l. go q (has m q))
    where
      go : (q : ℕ) (b : Bool) → cond b (image f es q) 0 < 256
      go q true = image-lt es q
      go q false = lit< tt

-- ── The moves of an instance, however it sees the event ──

-- the edge is of policy p, has the action a and is about the event's resource as it is seen
pub record Matches (p a : ℕ) (sees : ℕ → ℕ → Type 0) (e : Edge) : Type 0 where
  pub policy : e.policy ≡ p
  pub action : e.action ≡ a
  pub label : sees e.on e.who

moves-goes : {es : List Edge} {p a : ℕ} {sees : ℕ → ℕ → Type 0} {q q' : ℕ} → Moves es p a sees q q' → Goes (Matches p a sees) es q q'
moves-goes (along e m f) = follows e m (record { policy = f.policy; action = f.action; label = f.label }) f.from refl
moves-goes (stays n) = remains (λ e m f h. n e m (record { policy = f.policy; «from» = h; action = f.action; label = f.label })) refl

goes-moves : {es : List Edge} {p a : ℕ} {sees : ℕ → ℕ → Type 0} {q q' : ℕ} → Goes (Matches p a sees) es q q' → Moves es p a sees q q'
goes-moves {es} {p} {a} {sees} {q} (follows e m f h t) =
    subst (λ (n : ℕ). Moves es p a sees q n) t (along e m (record { policy = f.policy; «from» = h; action = f.action; label = f.label }))
goes-moves {es} {p} {a} {sees} {q} (remains n t) =
    subst (λ (n : ℕ). Moves es p a sees q n) t
    (stays (λ e m f. n e m (record { policy = f.policy; action = f.action; label = f.label }) f.from))

module _ (es : List Edge) (v : Ends es) (p a : ℕ) (sees : ℕ → ℕ → Type 0) (f : Edge → Bool)
    (sound : (e : Edge) → f e ≡ true → Matches p a sees e) (full : (e : Edge) → Matches p a sees e → f e ≡ true) where
  pub moved-found : (m q' : ℕ) → q' < states → has (move f es m) q' ≡ true
      → (q : ℕ) × (q < states) × (has m q ≡ true) × Moves es p a sees q q'
  moved-found m q' k h = let g = move-found f (Matches p a sees) sound full es v m q' k h in (g.0, g.1, g.2, goes-moves g.3)

  pub moved_at : (m q q' : ℕ) → q < states → has m q ≡ true → Moves es p a sees q q' → has (move f es m) q' ≡ true
  moved_at m q q' l h g = move_at f (Matches p a sees) sound full es v m q q' l h (moves-goes g)

-- no state but 0 to 7 is reached
pub moves-lt : {es : List Edge} {p a : ℕ} {sees : ℕ → ℕ → Type 0} {q q' : ℕ} → Ends es → q < states → Moves es p a sees q q' → q' < states
moves-lt v l (along e m f) = v e m
moves-lt v l (stays n) = l

-- ── The instance of one resource ──

-- the test `mine` says whether the event's resource r is the instance's own
pub record Own (x r : ℕ) (mine : Bool) : Type 0 where
  pub is : mine ≡ true → r ≡ x
  pub not : mine ≡ false → r ≡ x → ⊥

labelled-sees : (k who x r : ℕ) (mine : Bool) → Own x r mine → labelled k who mine r ≡ true → Sees (x ∷ []) r k who
labelled-sees zero who x r mine o h = subst (λ (w : ℕ). Sees (x ∷ []) r 0 w) (eqb-true r who h) named
labelled-sees (suc zero) who x r mine o h = own (ap {B = Option ℕ} some (sym (o.is h)))
labelled-sees (suc (suc zero)) who x r true o h = false-true h
labelled-sees (suc (suc zero)) who x r false o h = other (λ i e. o.not refl (sym (place-one x i r e)))
labelled-sees (suc (suc (suc k))) who x r mine o h = false-true h

sees-labelled : {k who x r : ℕ} (mine : Bool) → Own x r mine → Sees (x ∷ []) r k who → labelled k who mine r ≡ true
sees-labelled {r = r} mine o named = eq-eqb r r refl
sees-labelled true o (own h) = refl
sees-labelled {x = x} {r = r} false o (own h) = absurd (o.not refl (sym (place-one x 0 r h)))
sees-labelled true o (other h) = absurd (h 0 (ap {B = Option ℕ} some (sym (o.is refl))))
sees-labelled false o (other h) = refl
sees-labelled {r = r} mine o (second h) = absurd (place-nowhere 0 r h)

module _ (p x a r : ℕ) (mine : Bool) (o : Own x r mine) where
  fires-matches : (e : Edge) → fires p a r mine e ≡ true → Matches p a (Sees (x ∷ []) r) e
  fires-matches e h =
      let b : Bool = eqb e.policy p && eqb e.action a in
      let l : Bool = labelled e.on e.who mine r in
      record {
        policy = eqb-true e.policy p (and_left (eqb e.policy p) (eqb e.action a) (and_left b l h));
        action = eqb-true e.action a (and_right (eqb e.policy p) (eqb e.action a) (and_left b l h));
        label = labelled-sees e.on e.who x r mine o (and_right b l h);
      }

  matches-fires : (e : Edge) → Matches p a (Sees (x ∷ []) r) e → fires p a r mine e ≡ true
  matches-fires e m =
      and_both (eqb e.policy p && eqb e.action a) (labelled e.on e.who mine r)
      (and_both (eqb e.policy p) (eqb e.action a) (eq-eqb e.policy p m.policy) (eq-eqb e.action a m.action))
      (sees-labelled mine o m.label)

-- What `move_mask` gives is where the members of m may move.
module _ (es : List Edge) (v : Ends es) (p x a r : ℕ) (mine : Bool) (o : Own x r mine) where
  pub move_mask-found : (m q' : ℕ) → q' < states → has (move_mask es p a r mine m) q' ≡ true
      → (q : ℕ) × (q < states) × (has m q ≡ true) × Moves es p a (Sees (x ∷ []) r) q q'
  unfolding move_mask
  move_mask-found m q' k h =
      moved-found es v p a (Sees (x ∷ []) r) (fires p a r mine) (fires-matches p x a r mine o) (matches-fires p x a r mine o) m q' k h

  pub move_mask-at : (m q q' : ℕ) → q < states → has m q ≡ true → Moves es p a (Sees (x ∷ []) r) q q'
      → has (move_mask es p a r mine m) q' ≡ true
  unfolding move_mask
  move_mask-at m q q' l h g =
      moved_at es v p a (Sees (x ∷ []) r) (fires p a r mine) (fires-matches p x a r mine o) (matches-fires p x a r mine o) m q q' l h g

pub move_mask-lt : (es : List Edge) (p a r : ℕ) (mine : Bool) (m : ℕ) → move_mask es p a r mine m < 256
unfolding move_mask
move_mask-lt es p a r mine m = move-lt (fires p a r mine) es m

-- the edges of an accepted sheet end in states 0 to 7
pub ends_of : {es : List Edge} → EdgesOk es → Ends es
ends_of ok e m = (ok.each e m).to
