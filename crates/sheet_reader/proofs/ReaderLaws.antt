-- From what stands in the buffer to the readers' contracts.
use Prim.Native.Nat.{ℕ, ◌*◌, ◌<◌, ◌≤◌}
use mathlib.Core.Path.{◌≡◌, refl, sym, ap, subst, ◌∙◌}
use mathlib.Core.Bool.{Bool, true, false, cond}
use mathlib.Core.List.{List, ◌++◌, flatten}
use native.Mathlib.Omega.{arith}
use lib.Dec.{ltb}
use lib.ListN.{length, get_or, drop, replicate}
use borrow.Author.Tests.{lt-ltb, le-ltb, ltb-false}
use Rattle.usage.specs.Limits.{edge_places}
use Rattle.usage.specs.Answers.{Refusal}
use Rattle.usage.specs.Tables.{from}
use Rattle.usage.proofs.Logic.{clash}
use Rattle.sheet_lines.specs.Sheet.{Sheet, Result, accepted, refused, refuse_at, sheet}
use Rattle.sheet_lines.specs.Sheets.{policy_sheet, is_local}
use Rattle.sheet_lines.specs.Answer.{Answer, count, refusal, answered, most_values, filled}
use Rattle.sheet_lines.proofs.AcceptLaws.{Accepted, sheet-accepted, flat-length}
use Rattle.sheet_reader.specs.Readers.{policies_read, roomy, has_edges, has_refusal, policies_answered, stored}
use Rattle.sheet_fields.proofs.BelowLaws.{Below, below_at, below-append, below-drop, zeros-below}
use Rattle.sheet_reader.proofs.StoreLaws.{from_front}

-- what a reader must answer, and leave in a table
pub record Reads (r : Result) (a : Answer) (before after : List ℕ) : Type 0 where
  pub answers : a ≡ answered r
  pub table : after ≡ stored r before

module _ (r : Result) (t : List ℕ) where
  pub refused-reads : (line number : ℕ) → r ≡ refuse_at line number → Reads r (refusal record { line = line; number = number }) t t
  unfolding answered stored
  refused-reads line number e = rw e (record { answers = refl; table = refl })

  pub accepted-reads : (rows : List (List ℕ)) → r ≡ accepted rows
      → Reads r (count (length rows)) t (flatten rows ++ drop (length (flatten rows)) t)
  unfolding answered stored
  accepted-reads rows e = rw e (record { answers = refl; table = refl })

-- ── A table of so many places ──

module _ (places needed : ℕ) (r : Result) where
  -- 40
  pub too_small : places < needed → roomy places needed r ≡ refuse_at 0 40
  too_small h = simp (lt-ltb places needed h)

  pub has_room : needed ≤ places → roomy places needed r ≡ r
  has_room h = simp (le-ltb places needed h)

  pub within-room : (rows : List (List ℕ)) → roomy places needed r ≡ accepted rows → (needed ≤ places) × (r ≡ accepted rows)
  within-room rows e = go (ltb places needed) refl e
    where
      go : (x : Bool) → ltb places needed ≡ x → cond x (refuse_at 0 40) r ≡ accepted rows → (needed ≤ places) × (r ≡ accepted rows)
      go true q e = clash (cc)
      go false q e = (ltb-false places needed q, e)

-- ── The buffer after an accepted sheet ──

-- a count is answered only for an accepted sheet, and a refusal only for a refused one
record Counted (r : Result) (n : ℕ) : Type 0 where
  rows : List (List ℕ)
  result : r ≡ accepted rows
  number : n ≡ length rows

counted : (r : Result) (n : ℕ) → count n ≡ answered r → Counted r n
unfolding answered
counted (accepted rows) n e = record { rows = rows; result = refl; number = cc }
counted (refused r) n e = clash (cc)

pub refusal-result : (r : Result) (line number : ℕ) → refusal record { line = line; number = number } ≡ answered r
    → r ≡ refuse_at line number
unfolding answered
refusal-result (accepted rows) line number e = clash (cc)
refusal-result (refused r) line number e = ap refused (cc)

-- what is answered of policies, with the choice aside
module _ (local : Bool) where
  pub edges-answered : (r : Result) (n : ℕ) (l : Bool) → has_edges n l ≡ policies_answered local r → (count n ≡ answered r) × (l ≡ local)
  unfolding answered policies_answered
  edges-answered (accepted rows) n l e = let k : n ≡ length rows = cc in (ap count k, cc)
  edges-answered (refused r) n l e = clash (cc)

  pub refusal-answered : (r : Result) (x : Refusal) → has_refusal x ≡ policies_answered local r → refusal x ≡ answered r
  unfolding answered policies_answered
  refusal-answered (accepted rows) x e = clash (cc)
  refusal-answered (refused r) x e = let k : x ≡ r = cc in ap refusal k

  pub answered-edges : (r : Result) (n : ℕ) (l : Bool) → l ≡ local → count n ≡ answered r → has_edges n l ≡ policies_answered local r
  unfolding answered policies_answered
  answered-edges (accepted rows) n l c e = let k : n ≡ length rows = cc in ap (λ m. has_edges m l) k ∙ ap (has_edges (length rows)) c
  answered-edges (refused r) n l c e = clash (cc)

  pub answered-refusal : (r : Result) (x : Refusal) → refusal x ≡ answered r → has_refusal x ≡ policies_answered local r
  unfolding answered policies_answered
  answered-refusal (accepted rows) x e = clash (cc)
  answered-refusal (refused r) x e = let k : x ≡ r = cc in ap has_refusal k

pub record Kept (s : Sheet) (places needed : ℕ) (text buffer : List ℕ) (n : ℕ) : Type 0 where
  pub rows : List (List ℕ)
  pub read : roomy places needed (sheet s text) ≡ accepted rows
  pub room : needed ≤ places
  pub result : sheet s text ≡ accepted rows
  pub number : n ≡ length rows
  pub values : buffer ≡ flatten rows ++ drop (length (flatten rows)) (replicate most_values 0)
  pub ok : Accepted s rows
  pub size : length (flatten rows) ≡ n * s.fields

pub kept : (s : Sheet) (places needed : ℕ) (text first buffer : List ℕ) (n : ℕ) → count n ≡ answered (roomy places needed (sheet s text))
    → buffer ≡ filled (roomy places needed (sheet s text)) first → Kept s places needed text buffer n
unfolding filled
kept s places needed text first buffer n e d =
    let k = counted (roomy places needed (sheet s text)) n e in
    let w = within-room places needed (sheet s text) k.rows k.result in
    let ok = sheet-accepted s text k.rows w.1 in
    record {
      rows = k.rows;
      read = k.result;
      room = w.0;
      result = w.1;
      number = k.number;
      values = d ∙ ap (λ r. filled r first) k.result;
      ok = ok;
      size = flat-length s ok.each ∙ ap (λ m. m * s.fields) (sym k.number);
    }

-- policies, read by the choice l, which is that of the names line
module _ (places : ℕ) (text : List ℕ) (l : Bool) (chosen : l ≡ is_local text) where
  pub policies-kept : (first buffer : List ℕ) (n : ℕ) → count n ≡ answered (roomy places edge_places (sheet (policy_sheet l) text))
      → buffer ≡ filled (roomy places edge_places (sheet (policy_sheet l) text)) first
      → Kept (policy_sheet (is_local text)) places edge_places text buffer n
  policies-kept first buffer n e d =
      kept (policy_sheet (is_local text)) places edge_places text first buffer n
      (subst (λ (m : Bool). count n ≡ answered (roomy places edge_places (sheet (policy_sheet m) text))) chosen e)
      (subst (λ (m : Bool). buffer ≡ filled (roomy places edge_places (sheet (policy_sheet m) text)) first) chosen d)

  pub policies-refusal : (line number : ℕ)
      → refusal record { line = line; number = number } ≡ answered (roomy places edge_places (sheet (policy_sheet l) text))
      → roomy places edge_places (policies_read text) ≡ refuse_at line number
  policies-refusal line number e =
      refusal-result (roomy places edge_places (policies_read text)) line number
      (subst (λ (m : Bool). refusal record { line = line; number = number }
      ≡ answered (roomy places edge_places (sheet (policy_sheet m) text)))
      chosen e)

module _ (s : Sheet) (places needed : ℕ) (text buffer : List ℕ) (n : ℕ) (k : Kept s places needed text buffer n) where
  pub few : n ≤ s.most
  few = let h = k.ok.few in let e = k.number in omega arith

  -- a bound of the values is one of the buffer's
  pub bounded : (m : ℕ) → 0 < m → Below m (flatten k.rows) → (i : ℕ) → get_or buffer i 0 < m
  bounded m z b i = rw k.values (below_at (below-append b (below-drop (length (flatten k.rows)) (zeros-below m most_values z))) z i)

  pub all-values : from (λ i. get_or buffer i 0) 0 (n * s.fields) ≡ flatten k.rows
  all-values = from_front buffer (flatten k.rows) _ (n * s.fields) k.values k.size

  -- stored as they stand in the buffer
  pub stores : (t : List ℕ) → Reads (roomy places needed (sheet s text)) (count n) t
      (from (λ i. get_or buffer i 0) 0 (n * s.fields) ++ drop (n * s.fields) t)
  stores t = rw (all-values, ← k.size, k.number) (accepted-reads (roomy places needed (sheet s text)) t k.rows k.read)
