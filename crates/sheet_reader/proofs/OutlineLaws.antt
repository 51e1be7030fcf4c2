-- The lines of an accepted outline sheet: their node numbers, their nodes, and what the reader answers.
use Prim.Native.Nat.{ℕ, zero, suc, ◌*◌, ◌<◌}
use mathlib.Core.Path.{◌≡◌, refl, sym, ap, ◌∙◌}
use mathlib.Core.Bool.{Bool, true, false, cond}
use mathlib.Core.Option.{Option, none, some}
use mathlib.Core.List.{List, [], ◌∷◌, ◌++◌, map, tail, flatten}
use native.Mathlib.Omega.{arith}
use lib.Dec.{ltb}
use lib.ListN.{length, get_or, take, drop, length-map, get_or-append}
use lib.Seq.{take_at}
use Rattle.usage.specs.Limits.{node_fields}
use Rattle.usage.specs.Answers.{Refusal}
use Rattle.usage.specs.Tests.{ruled_sheet}
use Rattle.usage.specs.Tables.{nodes_of}
use Rattle.usage.proofs.TableLaws.{is-from}
use Rattle.sheet_fields.specs.Fields.{node_line_fields}
use Rattle.sheet_lines.specs.Sheet.{Result, refuse_at, sheet}
use Rattle.sheet_lines.specs.Sheets.{outline_sheet}
use Rattle.sheet_lines.specs.Answer.{count}
use Rattle.sheet_lines.proofs.AcceptLaws.{Rows, no_row, row}
use Rattle.sheet_reader.specs.Readers.{ruled_result, ruled_rows, roomy}
use Rattle.sheet_reader.specs.Code.{number_place, node_place, picked}
use Rattle.sheet_reader.proofs.ReaderLaws.{Kept, Reads, accepted-reads, has_room}

-- a line of four values
pub data Four : List ℕ → Type 0 where
  four : (a b c d : ℕ) → Four (a ∷ b ∷ c ∷ d ∷ [])

pub is-four : (vs : List ℕ) → length vs ≡ node_line_fields → Four vs
is-four [] e = absurd (omega arith)
is-four (a ∷ []) e = absurd (omega arith)
is-four (a ∷ b ∷ []) e = absurd (omega arith)
is-four (a ∷ b ∷ c ∷ []) e = absurd (omega arith)
is-four (a ∷ b ∷ c ∷ d ∷ []) e = four a b c d
is-four (a ∷ b ∷ c ∷ d ∷ x ∷ vs) e = absurd (omega arith)

abbrev pub first : List ℕ → ℕ
first vs = get_or vs 0 0

place-cell : {rows : List (List ℕ)} → Rows outline_sheet rows → (i : ℕ) → i < length rows
    → get_or (map first rows) i 0 ≡ get_or (flatten rows) (number_place i) 0
unfolding flatten
place-cell no_row i h = absurd (omega arith)
place-cell (row {vs} {rows} k m r) i h = go (place-cell r) vs (is-four vs k) i h
  where
    go : ((j : ℕ) → j < length rows → get_or (map first rows) j 0 ≡ get_or (flatten rows) (number_place j) 0) → (us : List ℕ) → Four us
        → (i : ℕ) → i < suc (length rows) → get_or (first us ∷ map first rows) i 0 ≡ get_or (us ++ flatten rows) (number_place i) 0
    go ih us (four a b c d) zero h = refl
    go ih us (four a b c d) (suc i) h = ih i (omega arith) ∙ ap (λ j. get_or (a ∷ b ∷ c ∷ d ∷ flatten rows) j 0) next
      where
        next : suc (suc (suc (suc (number_place i)))) ≡ number_place (suc i)
        next = omega arith

node-cell : {rows : List (List ℕ)} → Rows outline_sheet rows → (i : ℕ) → i < length rows * node_fields
    → get_or (flatten (map tail rows)) i 0 ≡ get_or (flatten rows) (node_place i) 0
unfolding flatten
node-cell no_row i h = absurd (omega arith)
node-cell (row {vs} {rows} k m r) i h = go (node-cell r) vs (is-four vs k) i h
  where
    go : ((j : ℕ) → j < length rows * node_fields → get_or (flatten (map tail rows)) j 0 ≡ get_or (flatten rows) (node_place j) 0)
        → (us : List ℕ) → Four us → (i : ℕ) → i < suc (length rows) * node_fields → get_or (tail us ++ flatten (map tail rows)) i 0 ≡ get_or
        (us ++ flatten rows) (node_place i) 0
    go ih us (four a b c d) zero h = refl
    go ih us (four a b c d) (suc zero) h = refl
    go ih us (four a b c d) (suc (suc zero)) h = refl
    go ih us (four a b c d) (suc (suc (suc i))) h = ih i (omega arith) ∙ ap (λ j. get_or (a ∷ b ∷ c ∷ d ∷ flatten rows) j 0) next
      where
        next : suc (suc (suc (suc (node_place i)))) ≡ node_place (suc (suc (suc i)))
        next = omega arith

pub nodes-size : {rows : List (List ℕ)} → Rows outline_sheet rows → length (flatten (map tail rows)) ≡ length rows * node_fields
unfolding flatten
nodes-size no_row = refl
nodes-size (row {vs} {rows} k m r) = go (nodes-size r) vs (is-four vs k)
  where
    go : length (flatten (map tail rows)) ≡ length rows * node_fields → (us : List ℕ) → Four us
        → length (tail us ++ flatten (map tail rows)) ≡ suc (length rows) * node_fields
    go ih us (four a b c d) = omega arith

-- ── What is picked of the lines ──

module _ (places needed : ℕ) (text buffer : List ℕ) (n : ℕ) (k : Kept outline_sheet places needed text buffer n) where
  cell : (j : ℕ) → j < n * node_line_fields → get_or (flatten k.rows) j 0 ≡ get_or buffer j 0
  cell j h = let z = k.size in sym (ap (λ l. get_or l j 0) k.values ∙ get_or-append (flatten k.rows) _ 0 j (omega arith))

  pub numbers-picked : picked number_place buffer n ≡ map first k.rows
  numbers-picked =
      sym (is-from (λ i. get_or buffer (number_place i) 0) 0 n (map first k.rows) (length-map k.rows first ∙ sym k.number)
      (λ i h. let c = k.number in place-cell k.ok.each i (omega arith) ∙ cell (number_place i) (omega arith)))

  pub nodes-picked : picked node_place buffer (n * node_fields) ≡ flatten (map tail k.rows)
  nodes-picked = sym (is-from (λ i. get_or buffer (node_place i) 0) 0 (n * node_fields) (flatten (map tail k.rows))
      (nodes-size k.ok.each ∙ ap (λ m. m * node_fields) (sym k.number))
      (λ i h. let c = k.number in node-cell k.ok.each i (omega arith) ∙ cell (node_place i) (omega arith)))

  -- ── The reader of outlines ──

  abbrev pub Rule-answer : Option Refusal
  Rule-answer = ruled_sheet (picked number_place buffer n) (nodes_of (picked node_place buffer (n * node_fields)))

  checks : roomy places needed (ruled_result (sheet outline_sheet text)) ≡ ruled_rows Rule-answer k.rows
  unfolding ruled_result
  checks = has_room places needed (ruled_result (sheet outline_sheet text)) k.room ∙ rw (k.result, numbers-picked, nodes-picked) refl

  pub outline-refused : (line number : ℕ) → Rule-answer ≡ some record { line = line; number = number }
      → roomy places needed (ruled_result (sheet outline_sheet text)) ≡ refuse_at line number
  outline-refused line number e = checks ∙ ap (λ o. ruled_rows o k.rows) e

  pub outline-stores : (t : List ℕ) → Rule-answer ≡ none
      → Reads (roomy places needed (ruled_result (sheet outline_sheet text))) (count n) t
      (picked node_place buffer (n * node_fields) ++ drop (n * node_fields) t)
  outline-stores t e =
      let long : n * node_fields ≡ length (flatten (map tail k.rows)) = ap (λ m. m * node_fields) k.number
      ∙ sym (nodes-size k.ok.each) in
      let many : n ≡ length (map tail k.rows) = k.number ∙ sym (length-map k.rows tail) in
      rw (nodes-picked, long, many)
      (accepted-reads (roomy places needed (ruled_result (sheet outline_sheet text))) t (map tail k.rows)
      (checks ∙ ap (λ o. ruled_rows o k.rows) e))

-- a sheet that is refused before its rules are asked
pub refused-before : (places needed : ℕ) (r : Result) (line number : ℕ) → roomy places needed r ≡ refuse_at line number
    → roomy places needed (ruled_result r) ≡ refuse_at line number
unfolding ruled_result
refused-before places needed r line number e = go (ltb places needed) e
  where
    go : (x : Bool) → cond x (refuse_at 0 40) r ≡ refuse_at line number → cond x (refuse_at 0 40) (ruled_result r) ≡ refuse_at line number
    go true e = e
    go false e = ap ruled_result e

-- the front of a list
pub front : (l p q : List ℕ) (n : ℕ) → l ≡ p ++ q → length p ≡ n → take n l ≡ p
front l p q n e h = ap (take n) e ∙ take_at p q n h
