-- Each block changed as its policy's, and what is gathered of both.
use Prim.Native.Nat.{ℕ, zero, suc, ◌+◌, ◌<◌, ◌≤◌}
use mathlib.Core.Path.{◌≡◌, refl, ap, ap₂, ◌∙◌}
use mathlib.Core.Bool.{Bool, true, false, not, ◌||◌, cond}
use mathlib.Core.List.{List, ◌∷◌}
use mathlib.Core.Logic.{◌⊎◌, inl, inr}
use native.Mathlib.Nat.{zero-add, suc-add}
use native.Mathlib.Omega.{arith}
use borrow.Author.Tests.{eq-eqb, eqb-true, lt-ltb, le-ltb, leb-true}
use lib.Count.{count_trailing_zeros}
use lib.Dec.{eqb, ltb, leb}
use lib.ListN.{length, get_or, take, drop, set, replicate, take-append-drop, length-append, length-set}
use lib.Seq.{take_at, drop_at, set_out, get_or-set_same, get_or-set_other}
use Rattle.usage.specs.declared.Edge.{Edge}
use Rattle.usage.specs.Limits.{policies}
use Rattle.usage.specs.Policy.{PairPolicy, EdgesOk}
use Rattle.usage.specs.Tests.{three_pairs}
use Rattle.usage.proofs.Logic.{and_left, or_cases, not-both}
use Rattle.usage.proofs.TableLaws.{length_from}
use Rattle.usage.proofs.ValidLaws.{decides-few}
use Rattle.automaton.specs.Mask.{has}
use Rattle.monitor_sets.specs.Sets.{start_set}
use Rattle.automaton.specs.PairSet.{pair_set, many_in}
use Rattle.automaton.proofs.MaskLaws.{all-below, all-below-at}
use Rattle.automaton.proofs.PairSetLaws.{pair_set_lem, set-lt, many-three}
use Rattle.monitor_pairs.specs.declared.which.Blocks.{Blocks}
use Rattle.monitor_pairs.specs.declared.Ways.{Ways}
use Rattle.monitor_pairs.specs.Pairs.{pair_places, event_pairs, gather_pairs, create_pairs, row_copied, reset_pairs, retire_pairs}
use Rattle.monitor_pairs.specs.Which.{blocks_of}
use Rattle.monitor_pairs.specs.Blocks.{pair_sets, lower_block, upper_block, pairs_of, of_policy, each_block, with_gathered}
use Rattle.monitor_pairs.proofs.BlockLaws.{lower-size, upper-size}
use Rattle.monitor_pairs.proofs.WhichLaws.{first_block, second_block}

-- ── Sizes ──

pub event-size : (w : Ways) (at n : ℕ) (sets : List ℕ) → length (event_pairs w at n sets) ≡ pair_places
unfolding event_pairs
event-size w at n sets = length_from _ 0 pair_places

pub create-size : (n : ℕ) (sets : List ℕ) → length (create_pairs n sets) ≡ pair_places
unfolding create_pairs row_copied
create-size n sets = length_from _ 0 pair_places

pub reset-size : (n : ℕ) (sets : List ℕ) → length (reset_pairs n sets) ≡ pair_places
unfolding reset_pairs
reset-size n sets = length_from _ 0 pair_places

pub retire-size : (at n : ℕ) (sets : List ℕ) → length (retire_pairs at n sets) ≡ pair_places
unfolding retire_pairs
retire-size at n sets = length_from _ 0 pair_places

-- ── Each block ──

abbrev pub Sized : (ℕ → List ℕ → List ℕ) → Type 0
Sized f = (p : ℕ) (sets : List ℕ) → length sets ≡ pair_places → length (f p sets) ≡ pair_places

pub of-policy : (p : ℕ) (f : ℕ → List ℕ → List ℕ) (sets : List ℕ) → p < policies → of_policy p f sets ≡ f p sets
unfolding of_policy
of-policy p f sets h = ap (λ (t : Bool). cond t (f p sets) sets) (lt-ltb p policies h)

module _ (b : Blocks) (f : ℕ → List ℕ → List ℕ) (sized : Sized f) (pairs : List ℕ) (e : length pairs ≡ pair_sets) where
  of_size : (p : ℕ) (sets : List ℕ) → length sets ≡ pair_places → length (of_policy p f sets) ≡ pair_places
  unfolding of_policy
  of_size p sets h = go (ltb p policies)
    where
      go : (t : Bool) → length (cond t (f p sets) sets) ≡ pair_places
      go true = sized p sets h
      go false = h

  pub first-size : length (of_policy b.first f (lower_block pairs)) ≡ pair_places
  first-size = of_size b.first (lower_block pairs) (lower-size pairs e)

  pub each-lower : lower_block (each_block b f pairs) ≡ of_policy b.first f (lower_block pairs)
  unfolding each_block
  each-lower = take_at (of_policy b.first f (lower_block pairs)) (of_policy b.second f (upper_block pairs)) pair_places first-size

  pub each-upper : upper_block (each_block b f pairs) ≡ of_policy b.second f (upper_block pairs)
  unfolding each_block
  each-upper = drop_at (of_policy b.first f (lower_block pairs)) (of_policy b.second f (upper_block pairs)) pair_places first-size

  pub each-size : length (each_block b f pairs) ≡ pair_sets
  unfolding each_block
  each-size =
      length-append (of_policy b.first f (lower_block pairs)) (of_policy b.second f (upper_block pairs))
      ∙ ap₂ (λ (m n : ℕ). m + n) first-size (of_size b.second (upper_block pairs) (upper-size pairs e))

-- by two changes that agree
pub each_same : (b : Blocks) (f g : ℕ → List ℕ → List ℕ) (pairs : List ℕ) → ((p : ℕ) (sets : List ℕ) → f p sets ≡ g p sets)
    → each_block b f pairs ≡ each_block b g pairs
unfolding each_block of_policy
each_same b f g pairs h = rw (h b.first (lower_block pairs), h b.second (upper_block pairs)) refl

-- ── Which policies the blocks belong to ──

module _ (es : List Edge) where
  abbrev m : ℕ
  m = pair_set es

  -- each block that belongs to a policy belongs to a pair policy
  pub lower-pair : (pairs_of es).first < policies → PairPolicy es (pairs_of es).first
  lower-pair h =
      let p = (pairs_of es).first in
      (pair_set_lem es p h).0 (and_left (has m p) _ (first_block m p (set-lt es) h ∙ eq-eqb p p refl))

  pub upper-pair : (pairs_of es).second < policies → PairPolicy es (pairs_of es).second
  upper-pair h =
      let p = (pairs_of es).second in
      (pair_set_lem es p h).0 (and_left (has m p) _ (second_block m p (set-lt es) h ∙ eq-eqb p p refl))

covers : ℕ → Bool
covers m = many_in m || all-below 8 (λ p. not (has m p) || (eqb p (blocks_of m).first || eqb p (blocks_of m).second))

cover-test : all-below 256 covers ≡ true
unfolding all-below covers has blocks_of count_trailing_zeros many_in
cover-test = refl

differs : ℕ → Bool
differs m = not (ltb (blocks_of m).first 8) || not (eqb (blocks_of m).first (blocks_of m).second)

differ-test : all-below 256 differs ≡ true
unfolding all-below differs has blocks_of count_trailing_zeros
differ-test = refl

module _ (es : List Edge) where
  pub blocks-differ : (pairs_of es).first < policies → (pairs_of es).first ≡ (pairs_of es).second → ⊥
  unfolding differs
  blocks-differ h e = go (ltb (blocks_of (pair_set es)).first 8) (lt-ltb _ 8 h) (eqb (blocks_of (pair_set es)).first (blocks_of (pair_set es)).second)
      (eq-eqb _ _ e) (all-below-at 256 differs differ-test (pair_set es) (set-lt es))
    where
      go : (s : Bool) → s ≡ true → (t : Bool) → t ≡ true → (not s || not t) ≡ true → ⊥
      go true a true b c = not-both false c refl
      go true a false b c = not-both false b refl
      go false a t b c = not-both false a refl

  -- "At most two policies may be such": each of them has a block
  pub has_block : EdgesOk es → (p : ℕ) → p < policies → PairPolicy es p → (p ≡ (pairs_of es).first) ⊎ (p ≡ (pairs_of es).second)
  unfolding covers
  has_block v p h is-pair =
      go (many_in (pair_set es)) few (all-below-at 256 covers cover-test (pair_set es) (set-lt es))
    where
      few : many_in (pair_set es) ≡ false
      few = many-three es ∙ none (three_pairs es) ((decides-few es v.each).1 v.few_pairs)
        where
          none : (b : Bool) → not b ≡ true → b ≡ false
          none true e = not-both false e refl
          none false e = refl

      at : (b c : Bool) → not true || (b || c) ≡ true → (b || c) ≡ true
      at b c e = e

      go : (b : Bool) → b ≡ false
          → (b || all-below 8 (λ p. not (has (pair_set es) p) || (eqb p (pairs_of es).first || eqb p (pairs_of es).second))) ≡ true
          → (p ≡ (pairs_of es).first) ⊎ (p ≡ (pairs_of es).second)
      go true e t = not-both true refl e
      go false e t = pick (or_cases (eqb p (pairs_of es).first) (eqb p (pairs_of es).second)
          (here (has (pair_set es) p) ((pair_set_lem es p h).1 is-pair)
          (all-below-at 8 (λ p. not (has (pair_set es) p) || (eqb p (pairs_of es).first || eqb p (pairs_of es).second)) t p h)))
        where
          here : (a : Bool) → a ≡ true → {b : Bool} → (not a || b) ≡ true → b ≡ true
          here true e u = u
          here false e u = not-both false e refl

          pick : (eqb p (pairs_of es).first ≡ true) ⊎ (eqb p (pairs_of es).second ≡ true) → (p ≡ (pairs_of es).first) ⊎ (p ≡ (pairs_of es).second)
          pick (inl e) = inl (eqb-true p _ e)
          pick (inr e) = inr (eqb-true p _ e)

-- ── What is gathered ──

pub gathered-size : (b : Blocks) (n : ℕ) (pairs possible : List ℕ) → length (with_gathered b n pairs possible) ≡ length possible
unfolding with_gathered
gathered-size b n pairs possible =
    length-set (set possible b.first (gather_pairs n (lower_block pairs))) b.second (gather_pairs n (upper_block pairs))
    ∙ length-set possible b.first (gather_pairs n (lower_block pairs))

-- ── No pair policy ──

-- where there is none, either block stays
pub none_each : (b : Blocks) (f : ℕ → List ℕ → List ℕ) (pairs : List ℕ) → policies ≤ b.first → policies ≤ b.second
    → each_block b f pairs ≡ pairs
unfolding each_block of_policy
none_each b f pairs h l = rw (le-ltb b.first policies h, le-ltb b.second policies l) (take-append-drop pair_places pairs)

pub none-gathered : (b : Blocks) (n : ℕ) (pairs possible : List ℕ) → length possible ≡ policies → policies ≤ b.first → policies ≤ b.second
    → with_gathered b n pairs possible ≡ possible
unfolding with_gathered
none-gathered b n pairs possible e h l =
    ap (λ (u : List ℕ). set u b.second (gather_pairs n (upper_block pairs)))
    (set_out possible b.first (gather_pairs n (lower_block pairs)) (omega (arith, e, h)))
    ∙ set_out possible b.second (gather_pairs n (upper_block pairs)) (omega (arith, e, l))

lasts : ℕ → Bool
lasts m = ltb (blocks_of m).first 8 || leb 8 (blocks_of m).second

last-test : all-below 256 lasts ≡ true
unfolding all-below lasts has blocks_of count_trailing_zeros
last-test = refl

-- there is no second one without a first
pub no_second : (es : List Edge) → policies ≤ (pairs_of es).first → policies ≤ (pairs_of es).second
unfolding lasts
no_second es h =
    leb-true 8 (pairs_of es).second
    (go (ltb (pairs_of es).first 8) (le-ltb (pairs_of es).first 8 h) (all-below-at 256 lasts last-test (pair_set es) (set-lt es)))
  where
    go : (b : Bool) → b ≡ false → {c : Bool} → (b || c) ≡ true → c ≡ true
    go true e t = not-both true refl e
    go false e t = t

module _ (b : Blocks) (n : ℕ) (pairs possible : List ℕ) (e : length possible ≡ policies) where
  pub gathered-second : (p : ℕ) → p < policies → p ≡ b.second → get_or (with_gathered b n pairs possible) p 0 ≡ gather_pairs n (upper_block pairs)
  unfolding with_gathered
  gathered-second p h q =
      ap (λ (k : ℕ). get_or (set first b.second top) k 0) q
      ∙ get_or-set_same first b.second top 0 (omega (arith, length-set possible b.first (gather_pairs n (lower_block pairs)), e))
    where
      top : ℕ
      top = gather_pairs n (upper_block pairs)

      first : List ℕ
      first = set possible b.first (gather_pairs n (lower_block pairs))

  pub gathered-first : (p : ℕ) → p < policies → p ≡ b.first → (p ≡ b.second → ⊥)
      → get_or (with_gathered b n pairs possible) p 0 ≡ gather_pairs n (lower_block pairs)
  unfolding with_gathered
  gathered-first p h q d =
      get_or-set_other (set possible b.first (gather_pairs n (lower_block pairs))) b.second p (gather_pairs n (upper_block pairs)) 0 d
      ∙ ap (λ (k : ℕ). get_or (set possible b.first (gather_pairs n (lower_block pairs))) k 0) q
      ∙ get_or-set_same possible b.first (gather_pairs n (lower_block pairs)) 0 (omega arith)

  pub gathered-other : (p : ℕ) → (p ≡ b.first → ⊥) → (p ≡ b.second → ⊥) → get_or (with_gathered b n pairs possible) p 0 ≡ get_or possible p 0
  unfolding with_gathered
  gathered-other p c d =
      get_or-set_other (set possible b.first (gather_pairs n (lower_block pairs))) b.second p (gather_pairs n (upper_block pairs)) 0 d
      ∙ get_or-set_other possible b.first p (gather_pairs n (lower_block pairs)) 0 c

-- ── The start ──

take-replicate : (n m a : ℕ) → take n (replicate (n + m) a) ≡ replicate n a
take-replicate zero m a = refl
take-replicate (suc n) m a = ap (λ (k : ℕ). take (suc n) (replicate k a)) (suc-add n m) ∙ ap (λ (l : List ℕ). a ∷ l) (take-replicate n m a)

drop-replicate : (n m a : ℕ) → drop n (replicate (n + m) a) ≡ replicate m a
drop-replicate zero m a = ap (λ (k : ℕ). replicate k a) (zero-add m)
drop-replicate (suc n) m a = ap (λ (k : ℕ). drop (suc n) (replicate k a)) (suc-add n m) ∙ drop-replicate n m a

pub start-lower : lower_block (replicate pair_sets start_set) ≡ replicate pair_places start_set
start-lower = take-replicate pair_places pair_places start_set

pub start-upper : upper_block (replicate pair_sets start_set) ≡ replicate pair_places start_set
start-upper = drop-replicate pair_places pair_places start_set
