-- Two events that match the same edges move a set alike.
use Prim.Native.Nat.{ℕ, zero, suc}
use mathlib.Core.Path.{◌≡◌, refl, ap, ap₂}
use mathlib.Core.Bool.{Bool, ◌&&◌, cond}
use mathlib.Core.List.{List, [], ◌∷◌, Memᴰ}
use lib.Bits.{bit_or}
use lib.Dec.{eqb}
use Rattle.usage.specs.declared.Edge.{Edge}
use Rattle.usage.specs.Limits.{states}
use Rattle.automaton.specs.Mask.{has, single}
use Rattle.automaton.specs.Move.{targets, image, move, labelled, fires, labelled_at, fires_at, move_mask}
use Rattle.automaton.proofs.RowLaws.{union-ext}

-- two tests that agree on every edge
abbrev Agree : (Edge → Bool) → (Edge → Bool) → List Edge → Type 0
Agree f g es = (e : Edge) → Memᴰ e es → f e ≡ g e

targets-same : (f g : Edge → Bool) (es : List Edge) → Agree f g es → (q : ℕ) → targets f es q ≡ targets g es q
unfolding targets
targets-same f g [] h q = refl
targets-same f g (e ∷ es) h q =
    ap₂ (λ (m n : ℕ). bit_or m n) (ap (λ (b : Bool). cond (b && eqb e.from q) (single e.to) 0) (h e (Memᴰ.head refl)))
    (targets-same f g es (λ d m. h d (Memᴰ.tail m)) q)

pub image-same : (f g : Edge → Bool) (es : List Edge) → Agree f g es → (q : ℕ) → image f es q ≡ image g es q
unfolding image
image-same f g es h q = ap (λ (n : ℕ). cond (eqb n 0) (single q) n) (targets-same f g es h q)

pub move_same : (f g : Edge → Bool) (es : List Edge) → Agree f g es → (m : ℕ) → move f es m ≡ move g es m
unfolding move
move_same f g es h m =
    union-ext states (λ q. cond (has m q) (image f es q) 0) (λ q. cond (has m q) (image g es q) 0)
    (λ q l. ap (λ (n : ℕ). cond (has m q) n 0) (image-same f g es h q))

-- events on x and on r, where the names in the edges do not tell x from r
module _ (x r : ℕ) (mine : Bool) where
  label_same : (on who : ℕ) → (on ≡ 0 → eqb x who ≡ eqb r who) → labelled on who mine x ≡ labelled on who mine r
  label_same zero who h = h refl
  label_same (suc zero) who h = refl
  label_same (suc (suc zero)) who h = refl
  label_same (suc (suc (suc k))) who h = refl

  pub move_mask-same : (es : List Edge) → ((e : Edge) → Memᴰ e es → e.on ≡ 0 → eqb x e.who ≡ eqb r e.who) → (p a m : ℕ)
      → move_mask es p a x mine m ≡ move_mask es p a r mine m
  unfolding move_mask
  move_mask-same es h p a m =
      move_same (fires p a x mine) (fires p a r mine) es
      (λ e k. ap (λ (b : Bool). (eqb e.policy p && eqb e.action a) && b) (label_same e.on e.who (h e k))) m

  -- so for an instance with one place or two
  pub image-named : (second : Bool) (es : List Edge) → ((e : Edge) → Memᴰ e es → e.on ≡ 0 → eqb x e.who ≡ eqb r e.who)
      → (p a q : ℕ) → image (fires_at p a x mine second) es q ≡ image (fires_at p a r mine second) es q
  image-named second es h p a q =
      image-same (fires_at p a x mine second) (fires_at p a r mine second) es
      (λ e k. ap (λ (b : Bool). (eqb e.policy p && eqb e.action a) && b) (at_same e.on e.who (h e k))) q
    where
      at_same : (on who : ℕ) → (on ≡ 0 → eqb x who ≡ eqb r who) → labelled_at on who mine second x ≡ labelled_at on who mine second r
      at_same zero who h = h refl
      at_same (suc zero) who h = refl
      at_same (suc (suc zero)) who h = refl
      at_same (suc (suc (suc zero))) who h = refl
      at_same (suc (suc (suc (suc k)))) who h = refl
