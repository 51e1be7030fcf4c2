-- A set of states is moved alike by two lists with the same edges, in whatever order and however often.
use Prim.Native.Nat.{ℕ}
use mathlib.Core.Path.{◌≡◌, refl, sym, ap, ◌∙◌}
use mathlib.Core.Bool.{Bool, cond}
use mathlib.Core.List.Memᴰ
use mathlib.Core.List.{List, [], ◌∷◌, Memᴰ}
use mathlib.Core.Logic.{◌⊎◌, inl, inr}
use lib.Bits.{bit_or, or_comm, or_self, or_zero_l}
use lib.Dec.{eqb}
use Rattle.usage.specs.declared.Edge.{Edge}
use Rattle.usage.specs.Limits.{states}
use Rattle.usage.specs.Policy.{SameEdges}
use Rattle.automaton.specs.Mask.{has, single}
use Rattle.automaton.specs.Move.{part, targets, image, move, fires, move_mask}
use Rattle.automaton.proofs.MaskLaws.{or_assoc}
use Rattle.automaton.proofs.RowLaws.{union-ext}

-- joined twice or in another order
or-again : (a b : ℕ) → bit_or a (bit_or a b) ≡ bit_or a b
or-again a b = sym (or_assoc a a b) ∙ ap (λ (n : ℕ). bit_or n b) (or_self a)

or_swap : (a b c : ℕ) → bit_or a (bit_or b c) ≡ bit_or b (bit_or a c)
or_swap a b c = sym (or_assoc a b c) ∙ ap (λ (n : ℕ). bit_or n c) (or_comm a b) ∙ or_assoc b a c

module _ (f : Edge → Bool) (q : ℕ) where
  -- an edge of the list adds nothing to its ends
  part_in : (es : List Edge) (e : Edge) → Memᴰ e es → bit_or (part f q e) (targets f es q) ≡ targets f es q
  unfolding targets
  part_in [] e m = absurd (Memᴰ.not-nil m)
  part_in (d ∷ es) e m = go (part_in es e) (Memᴰ.cases_cons m)
    where
      go : (Memᴰ e es → bit_or (part f q e) (targets f es q) ≡ targets f es q) → (e ≡ d) ⊎ Memᴰ e es
          → bit_or (part f q e) (bit_or (part f q d) (targets f es q)) ≡ bit_or (part f q d) (targets f es q)
      go ih (inl p) =
          ap (λ (c : Edge). bit_or (part f q c) (bit_or (part f q d) (targets f es q))) p ∙ or-again (part f q d) (targets f es q)
      go ih (inr k) = or_swap (part f q e) (part f q d) (targets f es q) ∙ ap (λ (n : ℕ). bit_or (part f q d) n) (ih k)

  targets-within : (es fs : List Edge) → ((e : Edge) → Memᴰ e es → Memᴰ e fs)
      → bit_or (targets f es q) (targets f fs q) ≡ targets f fs q
  unfolding targets
  targets-within [] fs h = or_zero_l (targets f fs q)
  targets-within (e ∷ es) fs h =
      or_assoc (part f q e) (targets f es q) (targets f fs q)
      ∙ ap (λ (n : ℕ). bit_or (part f q e) n) (targets-within es fs (λ d m. h d (Memᴰ.tail m)))
      ∙ part_in fs e (h e (Memᴰ.head refl))

  targets-set : (es fs : List Edge) → SameEdges es fs → targets f es q ≡ targets f fs q
  targets-set es fs h =
      sym (targets-within fs es (λ e. (h e).1)) ∙ or_comm (targets f fs q) (targets f es q) ∙ targets-within es fs (λ e. (h e).0)

pub image-set : (f : Edge → Bool) (es fs : List Edge) → SameEdges es fs → (q : ℕ) → image f es q ≡ image f fs q
unfolding image
image-set f es fs h q = ap (λ (n : ℕ). cond (eqb n 0) (single q) n) (targets-set f q es fs h)

move-set : (f : Edge → Bool) (es fs : List Edge) → SameEdges es fs → (m : ℕ) → move f es m ≡ move f fs m
unfolding move
move-set f es fs h m =
    union-ext states (λ q. cond (has m q) (image f es q) 0) (λ q. cond (has m q) (image f fs q) 0)
    (λ q l. ap (λ (n : ℕ). cond (has m q) n 0) (image-set f es fs h q))

pub move_mask-set : (es fs : List Edge) → SameEdges es fs → (p a r : ℕ) (mine : Bool) (m : ℕ)
    → move_mask es p a r mine m ≡ move_mask fs p a r mine m
unfolding move_mask
move_mask-set es fs h p a r mine m = move-set (fires p a r mine) es fs h m
