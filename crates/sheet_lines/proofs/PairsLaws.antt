-- The pair policies that the code keeps of the lines so far say what the sheet asks of all its lines together.
use Prim.Native.Nat.{ℕ, zero, suc, ◌+◌, ◌<◌}
use mathlib.Core.Path.{◌≡◌, refl, sym, ap, ap₂, ◌∙◌, fun_ext}
use mathlib.Core.Bool.{Bool, true, not}
use mathlib.Core.List.{List, [], ◌∷◌, ◌++◌, map, append-nil}
use mathlib.Core.List.Memᴰ
use mathlib.Core.List.{Memᴰ}
use native.Mathlib.Nat.{add-zero}
use native.Mathlib.Omega.{arith}
use lib.ListN.{get_or, take, drop}
use lib.Seq.{append_snoc, get_or-take, get_or-drop}
use Rattle.usage.specs.declared.Edge.{Edge}
use Rattle.usage.specs.Tests.{some_of, some_below, is_pair, three_pairs}
use Rattle.usage.proofs.Logic.{by_cases}
use Rattle.usage.proofs.EdgeSetLaws.{fewer-pairs}
use Rattle.automaton.specs.Mask.{union}
use Rattle.automaton.specs.PairSet.{pair_set, with_pair, many_in}
use Rattle.automaton.proofs.PairSetLaws.{with-edge, many-three}
use Rattle.sheet_fields.specs.declared.Kind.{Kind}
use Rattle.sheet_fields.specs.declared.Kind.TheVariants.{Policies, Trace, Outline}
use Rattle.sheet_fields.specs.Fields.{edge_of}
use Rattle.sheet_lines.specs.Sheet.{after_line}
use Rattle.sheet_lines.specs.Sheets.{has_few_pairs, policy_sheet, sheet_of}
use Rattle.sheet_lines.specs.Code.{pairs_with, pairs_over, sheet_after}
use Rattle.sheet_lines.proofs.AcceptLaws.{Together}

module _ (local : Bool) where
  over-set : (es : List Edge) (rows : List (List ℕ)) → pairs_over (Policies local) (pair_set es) rows ≡ pair_set (es ++ map edge_of rows)
  unfolding pairs_over
  over-set es [] = ap pair_set (sym (append-nil es))
  over-set es (vs ∷ rows) =
      ap (λ (m : ℕ). pairs_over (Policies local) m rows) (with-edge es (edge_of vs))
      ∙ over-set (es ++ (edge_of vs ∷ [])) rows ∙ ap pair_set (append_snoc es (edge_of vs) (map edge_of rows))

  set-none : pair_set [] ≡ 0
  unfolding pair_set is_pair some_of union
  set-none = refl

none_over : (rows : List (List ℕ)) → (pairs_over Trace 0 rows ≡ 0) × (pairs_over Outline 0 rows ≡ 0)
unfolding pairs_over
none_over [] = (refl, refl)
none_over (vs ∷ rows) = none_over rows

few-same : (k : Kind) (rows : List (List ℕ)) → not (many_in (pairs_over k 0 rows)) ≡ (sheet_of k).together rows
unfolding many_in
few-same (Policies local) rows =
    ap not (ap many_in (ap (λ (m : ℕ). pairs_over (Policies local) m rows) (sym (set-none local)) ∙ over-set local [] rows)
    ∙ many-three (map edge_of rows))
few-same Trace rows = ap (λ (m : ℕ). not (many_in m)) (none_over rows).0
few-same Outline rows = ap (λ (m : ℕ). not (many_in m)) (none_over rows).1

-- before the first line
pub sheet-start : (k : Kind) → sheet_after k 0 ≡ sheet_of k
sheet-start k = ap (λ (f : List (List ℕ) → Bool). record {
  names = (sheet_of k).names;
  most = (sheet_of k).most;
  fields = (sheet_of k).fields;
  in_range_lem = (sheet_of k).in_range_lem;
  together = f;
}) (fun_ext (few-same k))

-- after one more
pub sheet-next : (k : Kind) (m : ℕ) (vs : List ℕ) → after_line (sheet_after k m) vs ≡ sheet_after k (pairs_with k m vs)
unfolding pairs_over
sheet-next k m vs = refl

pub line-together : (k : Kind) (m : ℕ) (vs : List ℕ) → (sheet_after k m).together (vs ∷ []) ≡ not (many_in (pairs_with k m vs))
unfolding pairs_over
line-together k m vs = refl

-- the values of a line, where they stand in the buffer
pub line-pair : (m n base : ℕ) (buffer : List ℕ) → 3 < n
    → with_pair m (get_or (take n (drop base buffer)) 0 0) (get_or (take n (drop base buffer)) 3 0)
    ≡ with_pair m (get_or buffer base 0) (get_or buffer (base + 3) 0)
line-pair m n base buffer h =
    ap₂ (with_pair m)
    (get_or-take n (drop base buffer) 0 0 (omega arith) ∙ get_or-drop base buffer 0 0 ∙ ap (λ (i : ℕ). get_or buffer i 0) (add-zero base))
    (get_or-take n (drop base buffer) 3 0 h ∙ get_or-drop base buffer 3 0)

-- ── Few pair policies ──

-- the first of some lines have edges of them only
taken : (k : ℕ) (rows : List (List ℕ)) (e : Edge) → Memᴰ e (map edge_of (take k rows)) → Memᴰ e (map edge_of rows)
taken zero rows e m = absurd (Memᴰ.not-nil m)
taken (suc k) [] e m = m
taken (suc k) (vs ∷ rows) e m = by_cases (Memᴰ.cases_cons m) (λ q. Memᴰ.head q) (λ t. Memᴰ.tail (taken k rows e t))

pub few-together : (local : Bool) (rows : List (List ℕ)) → has_few_pairs rows ≡ true → Together (policy_sheet local) rows
few-together local rows h k = fewer-pairs (map edge_of (take k rows)) (map edge_of rows) (taken k rows) h

pub no-lines-few : (local : Bool) → (policy_sheet local).together [] ≡ true
unfolding three_pairs is_pair some_of some_below
no-lines-few local = refl
