-- What labels mean, inside a bracket and outside.
use Prim.Native.Nat.{ℕ, suc, ◌<◌, ◌≤◌}
use mathlib.Core.Path.{◌≡◌, refl, sym, ◌∙◌}
use mathlib.Core.List.{List}
use native.Mathlib.Omega.{arith}
use native.Mathlib.Decide.{ℕ_discrete}
use lib.Dec.{eqb}
use lib.ListN.{get_or, length, set, get_or-eq_default}
use lib.Seq.{get_or-set_same, get_or-set_other}
use borrow.Author.Tests.{eq-eqb, ne_eqb}
use Rattle.std.specs.Prelude.{Option as Maybe, Some, None}
use Rattle.usage.specs.Outline.{give, given_or}
use Rattle.sheet_grammar.specs.Grammar.{Bracket}
use Rattle.sheet_grammar.specs.Nodes.{Loops, LoopsBelow}
use Rattle.sheet_grammar.proofs.RangeLaws.{below_more, below-give}
use Rattle.sheet_expression.proofs.TextLaws.{same}
use Rattle.sheet_expression.specs.Code.{digit_of, loops_of, meant_loop, Bound}

-- ── What a label means ──

module _ (ls : List (Maybe ℕ)) (l k : ℕ) where
  pub meant-past : length ls ≡ 10 → 10 ≤ l → k ≡ meant_loop ls l k
  unfolding loops_of
  meant-past n h = rw (get_or-eq_default ls None {n = l} (omega arith))

  module _ (d : Maybe ℕ) (n : l < length ls) where
    pub meant-loop : (x : ℕ) → get_or ls l d ≡ Some x → x ≡ meant_loop ls l k
    unfolding loops_of
    meant-loop x e = rw (same ls l None d n ∙ e)

    pub meant-none : get_or ls l d ≡ None → k ≡ meant_loop ls l k
    unfolding loops_of
    meant-none e = rw (same ls l None d n ∙ e)

-- ── Inside a bracket ──

-- the loop's label means it
pub set-means : (ls : List (Maybe ℕ)) (l k : ℕ) → l < length ls → (m : ℕ) → loops_of (set ls l (Some k)) m ≡ give (loops_of ls) l k m
unfolding loops_of give
set-means ls l k n m = go (ℕ_discrete m l)
  where
    go : Dec (m ≡ l) → digit_of (get_or (set ls l (Some k)) m None) ≡ given_or (eqb m l) k (digit_of (get_or ls m None))
    go (yes e) = rw (eq-eqb m l e, e, get_or-set_same ls l (Some k) None n)
    go (no e) = rw (ne_eqb m l e, get_or-set_other ls l m (Some k) None e)

pub give-below : (loops loops' : Loops) (l k : ℕ) → ((m : ℕ) → loops' m ≡ give loops l k m) → LoopsBelow loops k → LoopsBelow loops' (suc k)
give-below loops loops' l k f b m i e = below-give l b m i (sym (f m) ∙ e)

-- a bracket that is no loop changes nothing
pub bound-same : (b : Bracket) (ls : List (Maybe ℕ)) (k : ℕ) → ((l : ℕ) → b ≡ Bracket.loop l → ⊥) → Bound b ls k ls
bound-same Bracket.round ls k f = record { means = λ x h l. refl; below = λ g. below_more g (omega arith) }
bound-same (Bracket.loop m) ls k f = absurd (f m refl)
bound-same (Bracket.fresh n) ls k f = record { means = λ x h l. refl; below = λ g. below_more g (omega arith) }
bound-same (Bracket.sandbox p) ls k f = record { means = λ x h l. refl; below = λ g. below_more g (omega arith) }

-- nor one that has no room
pub bound-full : (l : ℕ) (ls : List (Maybe ℕ)) (k : ℕ) → (l < 10 → k < 64 → ⊥) → Bound (Bracket.loop l) ls k ls
bound-full l ls k f = record { means = λ x h m. absurd (f x h); below = λ g. below_more g (omega arith) }

pub bound-loop : (l : ℕ) (ls : List (Maybe ℕ)) (k : ℕ) → l < length ls → Bound (Bracket.loop l) ls k (set ls l (Some k))
bound-loop l ls k n =
    record {
      means = λ x y m. set-means ls l k n m;
      below = λ g. below_more (give-below (loops_of ls) (loops_of (set ls l (Some k))) l k (set-means ls l k n) g) (omega arith);
    }
