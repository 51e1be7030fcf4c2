-- The ways of an event, and the pair policies, by the edges as a set; and by the static resources that edges name.
use Prim.Native.Nat.{ℕ, ◌^◌}
use mathlib.Core.Path.{◌≡◌, refl, sym, ap, ◌∙◌}
use mathlib.Core.Bool.{Bool, true, false, cond}
use mathlib.Core.List.{List, Memᴰ}
use lib.Dec.{eqb}
use Rattle.usage.specs.declared.Edge.{Edge}
use Rattle.usage.specs.Limits.{policies, states}
use Rattle.usage.specs.Policy.{SameEdges}
use Rattle.usage.specs.Tests.{is_pair}
use Rattle.usage.proofs.EdgeSetLaws.{pair-among}
use Rattle.usage.proofs.ValidLaws.{decides-pair}
use Rattle.automaton.specs.Move.{image, fires_at}
use Rattle.automaton.specs.PairSet.{pair_set}
use Rattle.automaton.proofs.EdgeSetLaws.{image-set}
use Rattle.automaton.proofs.SameLaws.{image-named}
use Rattle.automaton.proofs.RowLaws.{union-ext}
use Rattle.monitor_pairs.specs.Tracked.{rows_for, event_ways}
use Rattle.monitor_pairs.proofs.RunLaws.{same_from}

module _ (es fs : List Edge) (h : SameEdges es fs) where
  rows-set : (p a r : ℕ) (x y : Bool) → rows_for es p a r x y ≡ rows_for fs p a r x y
  unfolding rows_for
  rows-set p a r x y =
      same_from (λ q. image (fires_at p a r x y) es q) (λ q. image (fires_at p a r x y) fs q) states
      (λ q l. image-set (fires_at p a r x y) es fs h q)

  pub ways-set : (p a r : ℕ) → event_ways es p a r ≡ event_ways fs p a r
  unfolding event_ways
  ways-set p a r = rw (rows-set p a r false false, rows-set p a r true false, rows-set p a r false true, rows-set p a r true true) refl

  pub pairs_set : pair_set es ≡ pair_set fs
  unfolding pair_set
  pairs_set =
      union-ext policies (λ p. cond (is_pair es p) (2 ^ p) 0) (λ p. cond (is_pair fs p) (2 ^ p) 0)
      (λ p l. ap (λ (b : Bool). cond b (2 ^ p) 0) (go p (is_pair es p) refl (is_pair fs p) refl))
    where
      go : (p : ℕ) (a : Bool) → is_pair es p ≡ a → (b : Bool) → is_pair fs p ≡ b → a ≡ b
      go p true i true j = refl
      go p true i false j = sym ((decides-pair fs p).1 (pair-among (λ e. (h e).0) ((decides-pair es p).0 i))) ∙ j
      go p false i true j = sym i ∙ (decides-pair es p).1 (pair-among (λ e. (h e).1) ((decides-pair fs p).0 j))
      go p false i false j = refl

module _ (x r : ℕ) (es : List Edge) (h : (e : Edge) → Memᴰ e es → e.on ≡ 0 → eqb x e.who ≡ eqb r e.who) where
  rows_named : (p a : ℕ) (u v : Bool) → rows_for es p a x u v ≡ rows_for es p a r u v
  unfolding rows_for
  rows_named p a u v =
      same_from (λ q. image (fires_at p a x u v) es q) (λ q. image (fires_at p a r u v) es q) states (λ q l. image-named x r u v es h p a q)

  pub ways-named : (p a : ℕ) → event_ways es p a x ≡ event_ways es p a r
  unfolding event_ways
  ways-named p a = rw (rows_named p a false false, rows_named p a true false, rows_named p a false true, rows_named p a true true) refl
