-- What is promised of outlines typed as expressions.
use Prim.Native.Nat.{ℕ}
use mathlib.Core.Path.{◌≡◌, refl, sym, ap, subst, ◌∙◌}
use mathlib.Core.Bool.{Bool, true, false, cond}
use mathlib.Core.List.{List, flatten, Memᴰ}
use mathlib.Core.Logic.{◌↔◌}
use lib.Dec.{ltb, lit<}
use borrow.Author.Tests.{ltb-true, ltb-false, lt-ltb, le-ltb}
use Rattle.usage.specs.declared.Node.{Node}
use Rattle.usage.specs.Limits.{node_places}
use Rattle.usage.specs.Past.{Past}
use Rattle.usage.specs.Answers.{Refusal}
use Rattle.usage.specs.Outline.{IsTrace}
use Rattle.usage.specs.Tables.{nodes_of}
use Rattle.usage.proofs.TableLaws.{decides-node-table}
use Rattle.sheet_lines.specs.Sheet.{Result, accepted, refused, refuse_at}
use Rattle.sheet_reader.specs.Readers.{roomy, outline_into}
use Rattle.sheet_reader.proofs.Converse.{nodes_given}
use Rattle.sheet_grammar.specs.Tree.{Tree}
use Rattle.sheet_grammar.specs.Grammar.{most_nested, ExpressionLine}
use Rattle.sheet_grammar.specs.Outcome.{Outcome, bad}
use Rattle.sheet_grammar.specs.Nodes.{tree_nodes}
use Rattle.sheet_grammar.specs.Meaning.{TreeTrace}
use Rattle.sheet_grammar.proofs.MeaningLaws.{same-traces}
use Rattle.sheet_expression.specs.Expression.{ReadAs, expression_of, expression_into}
use Rattle.sheet_expression.proofs.ExpressionLaws.{expression-read, decides-expression, accepted-line, never-wrong, one_way}
use Rattle.sheet_expression.proofs.TableLaws.{rows-nodes, expression-table}
use Rattle.promises.specs.Demands.{line_numbers, expression_numbers, ReaderRefuses, ExpressionCase, GivenBy, Expressions}
use Rattle.promises.proofs.JudgeNumbers.{nth}
use Rattle.promises.proofs.SheetNumbers.{Number, Numbers, no_number, a-number, number_in, reader-refuses}

-- the numbers of a text, where those of 15 are in the list or do not occur
module _ (l : List ℕ) (line-in : (n : ℕ) → Memᴰ n line_numbers → Memᴰ n l) (text : List ℕ)
    (fifteen : (i : ℕ) → Outcome most_nested text (bad 15 i) → Memᴰ 15 l) where
  no-line-number : {c i : ℕ} → Outcome most_nested text (bad c i) → Number l c
  no-line-number (Outcome.wrong w s) = (fifteen _ (Outcome.wrong w s), lit< tt)
  no-line-number (Outcome.too_deep n c s) = (line-in 16 (nth 1 line_numbers refl), lit< tt)

  read-numbers : {r : Result} → ReadAs text r → Numbers l r
  read-numbers (ReadAs.too_long a) = a-number (line-in 5 (nth 0 line_numbers refl), lit< tt)
  read-numbers (ReadAs.no_line a p) = a-number (no-line-number p)
  read-numbers (ReadAs.too_many a b c) = a-number (line-in 17 (nth 2 line_numbers refl), lit< tt)
  read-numbers (ReadAs.bad_field a m f) = a-number (line-in 3 (nth 3 line_numbers refl), lit< tt)
  read-numbers (ReadAs.bad_back a d w) = a-number (line-in 7 (nth 4 line_numbers refl), lit< tt)
  read-numbers (ReadAs.bad_name a d x w) = a-number (line-in 8 (nth 5 line_numbers refl), lit< tt)
  read-numbers (ReadAs.is_read a d x w) = no_number

  pub expression-numbers : Numbers l (expression_of text)
  expression-numbers = read-numbers (expression-read text)

-- refused in the stated case, and in no other
expression-cases : (places : ℕ) (text : List ℕ) (r : Refusal)
    → (roomy places node_places (expression_of text) ≡ refused r) ↔ ExpressionCase places text r
expression-cases places text r = (λ e. there (ltb places node_places) refl e, back)
  where
    there : (b : Bool) → ltb places node_places ≡ b → cond b (refuse_at 0 40) (expression_of text) ≡ refused r → ExpressionCase places text r
    there true q e = ExpressionCase.no_room (ltb-true places node_places q) (sym (same e))
      where
        same : refuse_at 0 40 ≡ refused r → record { line = 0; number = 40 } ≡ r
        same e = cc
    there false q e = ExpressionCase.in_text (ltb-false places node_places q) ((decides-expression text (refused r)).0 e)

    back : ExpressionCase places text r → roomy places node_places (expression_of text) ≡ refused r
    back (ExpressionCase.no_room h e) = rw (lt-ltb places node_places h, e) refl
    back (ExpressionCase.in_text h k) = rw (le-ltb places node_places h) ((decides-expression text (refused r)).1 k)

pub expression-refuses : ReaderRefuses expression_numbers node_places expression_into ExpressionCase
unfolding expression_into
expression-refuses =
    reader-refuses expression_numbers (nth 0 expression_numbers refl) _ expression_of
    (λ text. expression-numbers expression_numbers (λ n m. Memᴰ.tail (Memᴰ.tail m)) text (λ i p. nth 1 expression_numbers refl))
    ExpressionCase expression-cases

line-number : (n : ℕ) (text : List ℕ) (t : Tree) (r : Refusal) → ExpressionLine n text t → expression_of text ≡ refused r
    → Memᴰ r.number line_numbers
line-number n text t r l e =
    (number_in (expression-numbers line_numbers (λ n m. m) text (λ i p. absurd (never-wrong text l p))) e).0

table-given : (text : List ℕ) (rows : List (List ℕ)) → expression_of text ≡ accepted rows → GivenBy node_places outline_into (flatten rows)
table-given text rows e =
    let g = nodes_given (flatten rows) ((decides-node-table (flatten rows)).1 (expression-table text rows e)) in
    record { text = g.text; rows = g.rows; accepts = g.accepts; table_is = g.table }

traces-same : (text : List ℕ) (rows : List (List ℕ)) (t : Tree) → expression_of text ≡ accepted rows → ExpressionLine most_nested text t
    → (past : Past) → IsTrace (nodes_of (flatten rows)) past ↔ TreeTrace t past
traces-same text rows t e l past =
    let a = accepted-line text rows e in
    let same : tree_nodes t ≡ nodes_of (flatten rows) = ap tree_nodes (one_way most_nested most_nested text t a.tree l a.is_line)
    ∙ sym (rows-nodes (tree_nodes a.tree)) ∙ ap (λ (r : List (List ℕ)). nodes_of (flatten r)) (sym a.rows_are) in
    subst (λ (ns : List Node). IsTrace ns past ↔ TreeTrace t past) same (same-traces t past)

pub expressions : Expressions
expressions = record {
  result = decides-expression;
  only_lines = λ text rows e. let a = accepted-line text rows e in (a.tree, a.is_line, a.rows_are);
  all_lines = line-number;
  one_way = one_way;
  table = table-given;
  traces = traces-same;
}
