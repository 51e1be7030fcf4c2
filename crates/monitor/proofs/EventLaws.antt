-- What an event makes of the blocks of the pair policies, by the ways that are made of the rows; and where there is no pair policy.
use Prim.Native.Nat.{ℕ, ◌<◌, ◌≤◌}
use mathlib.Core.Path.{◌≡◌, refl, sym, ap, ap₂, ◌∙◌}
use mathlib.Core.Bool.{Bool, true, false, ◌&&◌, cond}
use mathlib.Core.List.{List, ◌++◌}
use native.Mathlib.Omega.{arith}
use borrow.Author.Tests.{eq-eqb, le-leb, lt-ltb, ltb-true, ltb-false}
use lib.Dec.{eqb, ltb, leb}
use lib.ListN.{length, set, length-set}
use lib.Seq.{set_out}
use Rattle.usage.specs.declared.Edge.{Edge}
use Rattle.usage.specs.Limits.{policies}
use Rattle.usage.proofs.TableLaws.{length_from}
use Rattle.automaton.specs.Move.{rows_at}
use Rattle.monitor_sets.specs.Instances.{first_created_lem, instances}
use Rattle.monitor_sets.specs.Sets.{gathered}
use Rattle.monitor_sets.specs.Code.{event_sets}
use Rattle.monitor_pairs.specs.declared.Ways.{Ways}
use Rattle.monitor_pairs.specs.declared.which.Blocks.{Blocks}
use Rattle.monitor_sets.specs.declared.Turn.{Turn}
use Rattle.monitor_pairs.specs.Pairs.{event_pairs, create_pairs, gather_pairs}
use Rattle.monitor_pairs.specs.Tracked.{event_ways}
use Rattle.monitor_pairs.specs.Blocks.{pair_sets, lower_block, upper_block, pairs_of, of_policy, each_block, blocks_created, with_gathered}
use Rattle.monitor_pairs.specs.Code.{ways_in, turned, turned_blocks, led_blocks, takes_turn}
use Rattle.monitor_pairs.proofs.WaysLaws.{ways-in}
use Rattle.monitor_pairs.proofs.EachLaws.{create-size, each-lower, each-upper, none_each, none-gathered, no_second, event-size, each-size}
use Rattle.monitor_state.specs.Code.{event_blocks, event_possible}

pub gathered-length : (n : ℕ) (sets : List ℕ) → length (gathered n sets) ≡ policies
unfolding gathered
gathered-length n sets = length_from _ 0 policies

-- ── No pair policy ──

module _ (es : List Edge) (none : policies ≤ (pairs_of es).first) (a r at n : ℕ) where
  pub none-moved : (pairs : List ℕ) → event_blocks es a r at n pairs ≡ pairs
  unfolding event_blocks
  none-moved pairs =
      none_each (pairs_of es) (λ p. event_pairs (event_ways es p a r) at n) (cond (eqb a 0) (blocks_created es at pairs) pairs) none (no_second es none)
      ∙ go (eqb a 0)
    where
      go : (b : Bool) → cond b (blocks_created es at pairs) pairs ≡ pairs
      go true = none_each (pairs_of es) (λ p. create_pairs at) pairs none (no_second es none)
      go false = refl

  pub none-possible : (sets pairs : List ℕ) → event_possible es a r at n sets pairs ≡ gathered n (event_sets es a r at n sets)
  unfolding event_possible
  none-possible sets pairs =
      none-gathered (pairs_of es) n (event_blocks es a r at n pairs) (gathered n (event_sets es a r at n sets)) (gathered-length n _) none
      (no_second es none)

-- ── By the ways ──

module _ (es : List Edge) (a r : ℕ) (t : Turn) (c : eqb t.action 0 ≡ eqb a 0) where
  abbrev move : ℕ → List ℕ → List ℕ
  move p = event_pairs (event_ways es p a r) t.at t.n

  abbrev copy : ℕ → List ℕ → List ℕ
  copy p = create_pairs t.at

  abbrev tables : ℕ → Ways
  tables p = ways_in (rows_at es a r false false) (rows_at es a r true false) (rows_at es a r false true) (rows_at es a r true true) p

  -- one block
  abbrev made : ℕ → List ℕ → List ℕ
  made p sets = of_policy p move (cond (eqb a 0) (of_policy p copy sets) sets)

  turned-policy : (p : ℕ) (w : Ways) (sets : List ℕ) → w ≡ tables p → of_policy p (λ p. turned t w) sets ≡ made p sets
  unfolding of_policy turned
  turned-policy p w sets e = go (ltb p policies) refl
    where
      same : p < policies → w ≡ event_ways es p a r
      same h = e ∙ ways-in es p a r h

      off : (b : Bool) → sets ≡ cond b sets sets
      off true = refl
      off false = refl

      go : (b : Bool) → ltb p policies ≡ b
          → cond b (event_pairs w t.at t.n (cond (eqb t.action 0) (create_pairs t.at sets) sets)) sets
          ≡ cond b (move p (cond (eqb a 0) (cond b (create_pairs t.at sets) sets) sets)) (cond (eqb a 0) (cond b (create_pairs t.at sets) sets) sets)
      go true q =
          ap₂ (λ (v : Ways) (b : Bool). event_pairs v t.at t.n (cond b (create_pairs t.at sets) sets)) (same (ltb-true p policies q)) c
      go false q = off (eqb a 0)

  turned-at : (p : ℕ) (w : Ways) (sets : List ℕ) → p < policies → w ≡ tables p → turned t w sets ≡ made p sets
  unfolding of_policy
  turned-at p w sets h e = sym (ap (λ (b : Bool). cond b (turned t w sets) sets) (lt h)) ∙ turned-policy p w sets e
    where
      lt : p < policies → ltb p policies ≡ true
      lt h = lt-ltb p policies h

  module _ (pairs : List ℕ) (size : length pairs ≡ pair_sets) where
    abbrev first : List ℕ
    first = cond (eqb a 0) (each_block (pairs_of es) copy pairs) pairs

    first-size : length first ≡ pair_sets
    first-size = go (eqb a 0)
      where
        go : (b : Bool) → length (cond b (each_block (pairs_of es) copy pairs) pairs) ≡ pair_sets
        go true = each-size (pairs_of es) copy (λ p sets e. create-size t.at sets) pairs size
        go false = size

    lower-first : lower_block first ≡ cond (eqb a 0) (of_policy (pairs_of es).first copy (lower_block pairs)) (lower_block pairs)
    lower-first = go (eqb a 0)
      where
        go : (b : Bool) → lower_block (cond b (each_block (pairs_of es) copy pairs) pairs)
            ≡ cond b (of_policy (pairs_of es).first copy (lower_block pairs)) (lower_block pairs)
        go true = each-lower (pairs_of es) copy (λ p sets e. create-size t.at sets) pairs size
        go false = refl

    upper_first : upper_block first ≡ cond (eqb a 0) (of_policy (pairs_of es).second copy (upper_block pairs)) (upper_block pairs)
    upper_first = go (eqb a 0)
      where
        go : (b : Bool) → upper_block (cond b (each_block (pairs_of es) copy pairs) pairs)
            ≡ cond b (of_policy (pairs_of es).second copy (upper_block pairs)) (upper_block pairs)
        go true = each-upper (pairs_of es) copy (λ p sets e. create-size t.at sets) pairs size
        go false = refl

    after_lower : lower_block (event_blocks es a r t.at t.n pairs) ≡ made (pairs_of es).first (lower_block pairs)
    unfolding event_blocks
    after_lower =
        each-lower (pairs_of es) move (λ p sets e. event-size (event_ways es p a r) t.at t.n sets) first first-size
        ∙ ap (of_policy (pairs_of es).first move) lower-first

    after-upper : upper_block (event_blocks es a r t.at t.n pairs) ≡ made (pairs_of es).second (upper_block pairs)
    unfolding event_blocks
    after-upper =
        each-upper (pairs_of es) move (λ p sets e. event-size (event_ways es p a r) t.at t.n sets) first first-size
        ∙ ap (of_policy (pairs_of es).second move) upper_first

    module _ (which : Blocks) (is : which ≡ pairs_of es) (lower upper : Ways) (low : lower ≡ tables which.first)
        (high : upper ≡ tables which.second) where
      pub blocks-turned : turned_blocks which t lower upper pairs ≡ event_blocks es a r t.at t.n pairs
      unfolding turned_blocks event_blocks each_block
      blocks-turned =
          ap₂ (λ (u v : List ℕ). u ++ v) (turned-policy which.first lower (lower_block pairs) low)
          (turned-policy which.second upper (upper_block pairs) high)
          ∙ ap (λ (b : Blocks). made b.first (lower_block pairs) ++ made b.second (upper_block pairs)) is
          ∙ ap₂ (λ (u v : List ℕ). of_policy (pairs_of es).first move u ++ of_policy (pairs_of es).second move v) (sym lower-first)
          (sym upper_first)

      -- what takes the place of a policy's, where there is such a policy
      put_same : (p x y : ℕ) (l : List ℕ) → length l ≡ policies → (p < policies → x ≡ y) → set l p x ≡ set l p y
      put_same p x y l e h = go (ltb p policies) refl
        where
          go : (b : Bool) → ltb p policies ≡ b → set l p x ≡ set l p y
          go true q = ap (set l p) (h (ltb-true p policies q))
          go false q =
              let z = ltb-false p policies q in
              set_out l p x (omega (arith, e, z)) ∙ sym (set_out l p y (omega (arith, e, z)))

      pub blocks-led : (after : List ℕ) → length after ≡ policies
          → led_blocks which t lower upper pairs after ≡ with_gathered (pairs_of es) t.n (event_blocks es a r t.at t.n pairs) after
      unfolding led_blocks with_gathered
      blocks-led after e =
          put_same which.second _ (gather_pairs t.n (upper_block new)) (set after which.first _)
          (length-set after which.first _ ∙ e) (λ h. ap (gather_pairs t.n) (turned-at which.second upper (upper_block pairs) h high
          ∙ ap (λ (b : Blocks). made b.second (upper_block pairs)) is ∙ sym after-upper))
          ∙ ap (λ (l : List ℕ). set l which.second (gather_pairs t.n (upper_block new)))
          (put_same which.first _ (gather_pairs t.n (lower_block new)) after e (λ h. ap (gather_pairs t.n)
          (turned-at which.first lower (lower_block pairs) h low ∙ ap (λ (b : Blocks). made b.first (lower_block pairs)) is ∙ sym after_lower)))
          ∙ ap (λ (b : Blocks). set (set after b.first (gather_pairs t.n (lower_block new))) b.second (gather_pairs t.n (upper_block new))) is
        where
          new : List ℕ
          new = event_blocks es a r t.at t.n pairs

-- ── What the functions on the blocks say, where the bounds hold ──

pub turn-taken : {A : Type 0} (t : Turn) (pairs : List ℕ) (x y : A) → length pairs ≡ pair_sets → t.n ≤ instances → t.at < t.n
    → cond (takes_turn t pairs) x y ≡ x
turn-taken t pairs x y e h k = simp (eq-eqb (length pairs) pair_sets e, le-leb t.n instances h, lt-ltb t.at t.n k)

pub blocks-retired : {A : Type 0} (pairs : List ℕ) (n at : ℕ) (x y : A) → length pairs ≡ pair_sets → n ≤ instances → at < n → first_created_lem ≤ at
    → cond (eqb (length pairs) pair_sets && (leb n instances && (ltb at n && leb first_created_lem at))) x y ≡ x
blocks-retired pairs n at x y e h k l =
    simp (eq-eqb (length pairs) pair_sets e, le-leb n instances h, lt-ltb at n k, le-leb first_created_lem at l)

pub blocks-reset : {A : Type 0} (pairs : List ℕ) (n : ℕ) (x y : A) → length pairs ≡ pair_sets → n ≤ instances
    → cond (eqb (length pairs) pair_sets && leb n instances) x y ≡ x
blocks-reset pairs n x y e h = simp (eq-eqb (length pairs) pair_sets e, le-leb n instances h)

pub ways-same : {n u f v s w b x : List ℕ} (p : ℕ) → n ≡ u → f ≡ v → s ≡ w → b ≡ x → ways_in n f s b p ≡ ways_in u v w x p
ways-same p i j k l = rw (i, j, k, l) refl
