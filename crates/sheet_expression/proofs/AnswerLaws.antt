-- What the reader's answer says of its expression, for those who lend it a table of zeros.
use Prim.Native.Nat.{ℕ, ◌*◌, ◌≤◌, ◌<◌}
use mathlib.Core.Path.{◌≡◌, sym, ap, subst, ◌∙◌}
use mathlib.Core.List.{List, flatten}
use native.Mathlib.Omega.{arith}
use lib.ListN.{length, take, drop, length-replicate, length-map}
use lib.Seq.{take_at}
use Rattle.usage.specs.Limits.{most_nodes, node_fields, node_places}
use Rattle.usage.specs.Answers.{Refusal}
use Rattle.usage.proofs.Logic.{clash}
use Rattle.sheet_lines.specs.Sheet.{Result, accepted, refused, refuse_at}
use Rattle.sheet_lines.specs.Answer.{count, refusal, answered}
use Rattle.sheet_reader.specs.Readers.{stored}
use Rattle.sheet_reader.proofs.AnswerLaws.{zeros}
use Rattle.sheet_reader.proofs.ReaderLaws.{refusal-result}
use Rattle.sheet_grammar.specs.Grammar.{most_nested}
use Rattle.sheet_grammar.specs.Outcome.{Outcome, bad}
use Rattle.sheet_grammar.specs.Nodes.{tree_nodes}
use Rattle.sheet_expression.specs.Expression.{ReadAs, expression_of, expression_into, node_row}
use Rattle.sheet_expression.proofs.ExpressionLaws.{expression-read, accepted-line}
use Rattle.sheet_expression.proofs.TableLaws.{rows-length}

-- n nodes were stored: the expression is accepted, and their values are the first of the table
pub record HoldsTree (text table : List ℕ) (n : ℕ) : Type 0 where
  pub rows : List (List ℕ)
  pub result : expression_of text ≡ accepted rows
  pub flat : take (n * node_fields) table ≡ flatten rows
  pub few : n ≤ most_nodes

module _ (text : List ℕ) where
  expression-into : expression_into (length (zeros node_places)) text ≡ expression_of text
  unfolding expression_into
  expression-into = ap (λ (p : ℕ). expression_into p text) (length-replicate {A = ℕ} node_places 0)

  pub expression-held : (table : List ℕ) (n : ℕ) → count n ≡ answered (expression_into (length (zeros node_places)) text)
      → table ≡ stored (expression_into (length (zeros node_places)) text) (zeros node_places) → HoldsTree text table n
  unfolding answered stored
  expression-held table n e t = go (expression_into (length (zeros node_places)) text) expression-into e t
    where
      go : (r : Result) → r ≡ expression_of text → count n ≡ answered r → table ≡ stored r (zeros node_places) → HoldsTree text table n
      go (accepted rows) k e t =
          let m : n ≡ length rows = cc in
          let a = accepted-line text rows (sym k) in
          let ns = tree_nodes a.tree in
          let l = ap length a.rows_are ∙ length-map ns node_row in
          let f = ap (λ (rs : List (List ℕ)). length (flatten rs)) a.rows_are ∙ rows-length ns in
          let few = a.outline.few in
          record {
            rows = rows;
            result = sym k;
            flat = ap (take (n * node_fields)) t ∙ take_at (flatten rows) (drop (length (flatten rows)) (zeros node_places))
                (n * node_fields) (omega arith);
            few = omega arith;
          }
      go (refused r) k e t = clash (cc)

  pub expression-refused-as : (line number : ℕ)
      → refusal record { line = line; number = number } ≡ answered (expression_into (length (zeros node_places)) text)
      → expression_of text ≡ refused record { line = line; number = number }
  expression-refused-as line number e = refusal-result (expression_of text) line number (e ∙ ap answered expression-into)

  -- the line and the number of a refusal
  abbrev Low : Refusal → Type 0
  Low r = (r.line < 2) × (r.number < 18)

  no-line-low : {c i : ℕ} → Outcome most_nested text (bad c i) → c < 18
  no-line-low (Outcome.wrong w s) = omega arith
  no-line-low (Outcome.too_deep n c s) = omega arith

  low-at : (line number : ℕ) (r : Refusal) → refuse_at line number ≡ refused r → line < 2 → number < 18 → Low r
  low-at line number r e l m =
      let q : ◌≡◌ {A = Refusal} record { line = line; number = number } r = cc in
      subst (λ (x : Refusal). Low x) q (l, m)

  read_low : {x : Result} → ReadAs text x → (r : Refusal) → x ≡ refused r → Low r
  read_low (ReadAs.too_long a) r e = low-at 0 5 r e (omega arith) (omega arith)
  read_low (ReadAs.no_line {c} a p) r e = low-at 1 c r e (omega arith) (no-line-low p)
  read_low (ReadAs.too_many a b c) r e = low-at 1 17 r e (omega arith) (omega arith)
  read_low (ReadAs.bad_field a m f) r e = low-at 1 3 r e (omega arith) (omega arith)
  read_low (ReadAs.bad_back a d w) r e = low-at 1 7 r e (omega arith) (omega arith)
  read_low (ReadAs.bad_name a d x w) r e = low-at 1 8 r e (omega arith) (omega arith)
  read_low (ReadAs.is_read a d x w) r e = clash (cc)

  pub expression-low : (r : Refusal) → expression_of text ≡ refused r → Low r
  expression-low r e = read_low (expression-read text) r e
