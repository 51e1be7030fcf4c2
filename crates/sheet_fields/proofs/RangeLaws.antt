-- Laws of the ranges of a kind's fields.
use Prim.Native.Nat.{ℕ, zero, suc, ◌+◌, ◌≤◌, ◌<◌}
use mathlib.Core.Path.{◌≡◌, refl, sym, ap, ◌∙◌}
use mathlib.Core.Option.{Option, none, some}
use Rattle.std.specs.Prelude as o
use mathlib.Core.List.{List, [], ◌∷◌}
use native.Mathlib.Omega.{arith}
use native.Mathlib.Nat.{le_of_suc-le-suc, not-suc-le-zero, add-zero}
use lib.ListN.{length, get_or, take, drop, get_elem?}
use lib.Seq.{get_or-take, get_or-drop}
use Rattle.usage.specs.Limits.{edge_fields, Kind}
use Rattle.usage.specs.Tests.{fits}
use Rattle.sheet_fields.specs.Fields.{edge_of}
use Rattle.sheet_fields.specs.declared.Spans.{Spans}
use Rattle.sheet_fields.specs.Code.{spans_of, in_spans}

-- a list has no element past its end
pub past_end : {A : Type 0} (l : List A) (n : ℕ) → length l ≤ n → get_elem? l n ≡ none
past_end [] n h = refl
past_end (x ∷ l) zero h = absurd (not-suc-le-zero h)
past_end (x ∷ l) (suc n) h = past_end l n (le_of_suc-le-suc h)

-- the functions' test of a kind's fields is the definition's
pub spans_fit : {A : Type 0} (k : Option (Kind A)) (s : o.Option Spans) (a b : ℕ) → s ≡ spans_of k → in_spans s a b ≡ fits k a b
spans_fit {A = A} k s a b e = ap (λ t. in_spans t a b) e ∙ go k
  where
    go : (o : Option (Kind A)) → in_spans (spans_of o) a b ≡ fits o a b
    go none = refl
    go (some k) = refl

-- what is left after a match on 0, 1, 2 and on: a number that is none of the first n
abbrev pub NoneOf : ℕ → ℕ → Type 0
NoneOf zero k = Unit {0}
NoneOf (suc n) k = NoneOf n k × (k ≡ n → ⊥)

pub past_all : (n k : ℕ) → NoneOf n k → n ≤ k
past_all zero k h = omega arith
past_all (suc n) k h = let l = past_all n k h.0 in let e = h.1 in omega arith

-- one arm of the match on a kind, and what is left after it
module _ {A : Type 0} (ks : List (Kind A)) (k : ℕ) (s : o.Option Spans) where
  pub kind-spans : (n : ℕ) → k ≡ n → s ≡ spans_of (get_elem? ks n) → s ≡ spans_of (get_elem? ks k)
  kind-spans n e h = h ∙ ap (λ i. spans_of (get_elem? ks i)) (sym e)

  pub no_kind : NoneOf (length ks) k → s ≡ spans_of {A = A} none → s ≡ spans_of (get_elem? ks k)
  no_kind r h = h ∙ ap spans_of (sym (past_end ks k (past_all (length ks) k r)))

-- ── A line's values in a list, from b on ──

module _ (b : ℕ) (l : List ℕ) where
  pub cell : (n i : ℕ) → i < n → get_or (take n (drop b l)) i 0 ≡ get_or l (b + i) 0
  cell n i h = get_or-take n (drop b l) i 0 h ∙ get_or-drop b l i 0

  pub cell-first : (n : ℕ) → 0 < n → get_or (take n (drop b l)) 0 0 ≡ get_or l b 0
  cell-first n h = cell n 0 h ∙ ap (λ i. get_or l i 0) (add-zero b)

  pub edge-of-cells : edge_of (take edge_fields (drop b l)) ≡ record {
    policy = get_or l b 0;
    «from» = get_or l (b + 1) 0;
    action = get_or l (b + 2) 0;
    on = get_or l (b + 3) 0;
    who = get_or l (b + 4) 0;
    to = get_or l (b + 5) 0;
  }
  edge-of-cells = rw (
    cell-first edge_fields (omega arith),
    cell edge_fields 1 (omega arith),
    cell edge_fields 2 (omega arith),
    cell edge_fields 3 (omega arith),
    cell edge_fields 4 (omega arith),
    cell edge_fields 5 (omega arith),
  ) refl
