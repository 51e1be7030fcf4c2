-- Laws of what reading an expression answers and stores.
use Prim.Native.Nat.{ℕ, zero, suc, ◌+◌, ◌*◌, ◌<◌, ◌≤◌}
use mathlib.Core.Path.{◌≡◌, refl, sym, ap, ap₂, subst, fun_ext, ◌∙◌}
use mathlib.Core.Bool.{Bool, true, false, cond}
use mathlib.Core.Option.{Option, none, some}
use mathlib.Core.List.{List, ◌++◌, flatten}
use native.Mathlib.Omega.{arith}
use lib.Dec.{ltb}
use lib.ListN.{get_elem?, get_or, length, take, drop, replicate, length-map}
use lib.Seq.{get_or-take, length-take-le}
use borrow.Author.Tests.{lt-ltb, le-ltb}
use Rattle.std.specs.Prelude.{Option as Maybe, None, Result, Ok, Err}
use Rattle.usage.specs.declared.Node.{Node}
use Rattle.usage.specs.declared.Reason.{Reason}
use Rattle.usage.specs.declared.Reason.TheVariants.{ExpressionByte}
use Rattle.usage.specs.Reasons.{number_of}
use Rattle.usage.specs.Limits.{most_nodes, node_fields, node_places, longest_sheet}
use Rattle.usage.specs.Answers.{Refusal}
use Rattle.usage.specs.Tests.{every, node_ok, ruled}
use Rattle.usage.specs.Tables.{from, node_at_lem, nodes_of as table-nodes}
use Rattle.usage.proofs.Logic.{none-some}
use Rattle.sheet_lines.specs.Sheet.{accepted, refuse_at}
use Rattle.sheet_lines.specs.Answer.{count}
use Rattle.sheet_reader.proofs.ReaderLaws.{Reads as Stores, accepted-reads, too_small, has_room}
use Rattle.sheet_grammar.specs.Tree.{Tree}
use Rattle.sheet_grammar.specs.Grammar.{choice_phrase, labels, most_nested}
use Rattle.sheet_grammar.specs.Outcome.{Out, ok, bad}
use Rattle.sheet_grammar.specs.Reader.{byte_is, read}
use Rattle.sheet_grammar.specs.Rules.{Reads}
use Rattle.sheet_grammar.specs.Nodes.{tree_size, Loops, LoopsBelow, nodes_from, tree_nodes}
use Rattle.sheet_expression.specs.Expression.{node_row, table_rows, by_rule, by_nodes, by_line, expression_of, expression_into}
use Rattle.sheet_grammar.proofs.ExactLaws.{Lined as LinedBy, lined-is}
use Rattle.usage.proofs.TableLaws.{length_from, is-from}
use Rattle.sheet_expression.proofs.TextLaws.{here, over}
use Rattle.sheet_expression.specs.declared.numbering.NodeList.{NodeList}
use Rattle.sheet_expression.specs.Code.{
  digit_of,
  listed_nodes,
  loops_of,
  Grown,
  Fits,
  PhraseAnswer,
  no_loops,
  rule_number,
  nodes_fault,
  Holds,
  Lined,
}
use Rattle.sheet_expression.specs.declared.phrases.Read.{Read}
use Rattle.sheet_expression.proofs.FillLaws.{rows-from, nodes-of}

-- ── No label means a loop at first ──

same-all : {A : Type 0} (n : ℕ) (x : A) (l : ℕ) → get_or (replicate n x) l x ≡ x
same-all zero x l = refl
same-all (suc n) x zero = refl
same-all (suc n) x (suc l) = same-all n x l

no-loops : (l : ℕ) → loops_of no_loops l ≡ none
unfolding loops_of
no-loops l = ap digit_of (same-all {A = Maybe ℕ} labels None l)

pub start-below : (k : ℕ) → LoopsBelow (loops_of no_loops) k
start-below k l i e = none-some (sym (no-loops l) ∙ e)

-- ── The line ──

module _ (s : List ℕ) (a : NodeList) (none_yet : a.count ≡ 0) where
  pub line_refused : {c : Reason} → PhraseAnswer choice_phrase s 0 most_nested no_loops a (Err c) → Lined s (Err c)
  line_refused {c} x = go x.out x.reads x.fits
    where
      go : (out : Out) → Reads s (read choice_phrase) 0 most_nested out → Fits (loops_of no_loops) a out (Err c) → Lined s (Err c)
      go (ok t e) p f = absurd f
      go (bad d i) p f = record { out = bad d i; is = lined-is most_nested s (LinedBy.not-read p); holds = f }

  module _ (r : Read) (x : PhraseAnswer choice_phrase s 0 most_nested no_loops a (Ok r)) where
    grown : {t : Tree} → Grown (loops_of no_loops) a r.nodes t
        → (r.nodes.count ≡ tree_size t) × (r.nodes.count ≤ most_nodes → listed_nodes r.nodes ≡ tree_nodes t)
    unfolding listed_nodes from
    grown {t} g =
        let c = g.count in (
          omega arith,
          λ l. g.nodes l ∙ ap₂ (λ (n : ℕ) (xs : List Node). from (node_at_lem a.table) 0 n ++ xs) none_yet
              (ap₂ (λ (e : Loops) (k : ℕ). nodes_from e k t) (fun_ext no-loops) none_yet),
        )

    by_out : (Q : Type 0)
        → ((t : Tree) → Reads s (read choice_phrase) 0 most_nested (ok t r.at) → Grown (loops_of no_loops) a r.nodes t → Q) → Q
    by_out Q f = go x.out x.reads x.fits
      where
        go : (out : Out) → Reads s (read choice_phrase) 0 most_nested out → Fits (loops_of no_loops) a out (Ok r) → Q
        go (ok t e) p (v, g) = f t (subst (λ (j : ℕ). Reads s (read choice_phrase) 0 most_nested (ok t j)) (sym v) p) g
        go (bad c i) p u = absurd u

    pub line-no-feed : byte_is (get_elem? s r.at) 10 ≡ false → Lined s (Err ExpressionByte)
    line-no-feed y = by_out _ (λ t p g. record { out = bad 15 r.at; is = lined-is most_nested s (LinedBy.no_feed p y); holds = refl })

    pub line-goes-on : byte_is (get_elem? s r.at) 10 ≡ true → r.at + 1 < length s → Lined s (Err ExpressionByte)
    line-goes-on y l =
        by_out _ (λ t p g. record {
          out = bad 15 (suc r.at);
          is = lined-is most_nested s
              (LinedBy.not-ended p y (here s (suc r.at) (omega arith)));
          holds = refl;
        })

    pub line-ends : byte_is (get_elem? s r.at) 10 ≡ true → length s ≤ r.at + 1 → Lined s (Ok r.nodes)
    line-ends y l =
        by_out _ (λ t p g. record {
          out = ok t (suc r.at);
          is = lined-is most_nested s
              (LinedBy.ended p y (over s (suc r.at) (omega arith)));
          holds = grown g;
        })

-- ── What the nodes break ──

fault-none : (ns : List Node) → none ≡ nodes_fault ns → by_nodes ns ≡ accepted (table_rows ns)
unfolding nodes_fault
fault-none ns e = go (every node_ok ns) e
  where
    by-ruled : (o : Option Refusal) → none ≡ rule_number o → by_rule o ns ≡ accepted (table_rows ns)
    by-ruled none q = refl
    by-ruled (some r) q = none-some q

    go : (b : Bool) → none ≡ cond b (rule_number (ruled ns)) (some 3) → cond b (by_rule (ruled ns) ns) (refuse_at 1 3) ≡ accepted (table_rows ns)
    go true q = by-ruled (ruled ns) q
    go false q = none-some q

fault-some : (ns : List Node) (k : ℕ) → some k ≡ nodes_fault ns → by_nodes ns ≡ refuse_at 1 k
unfolding nodes_fault
fault-some ns k e = go (every node_ok ns) e
  where
    by-ruled : (o : Option Refusal) → some k ≡ rule_number o → by_rule o ns ≡ refuse_at 1 k
    by-ruled none q = none-some (sym q)
    by-ruled (some r) q = let e : r.number ≡ k = cc in ap (λ (j : ℕ). refuse_at 1 j) e

    go : (b : Bool) → some k ≡ cond b (rule_number (ruled ns)) (some 3) → cond b (by_rule (ruled ns) ns) (refuse_at 1 3) ≡ refuse_at 1 k
    go true q = by-ruled (ruled ns) q
    go false q = let e : 3 ≡ k = cc in ap (λ (j : ℕ). refuse_at 1 j) e

-- ── The nodes of a line ──

module _ (text : List ℕ) (short : length text ≤ longest_sheet) where
  by-lined : {r : Result NodeList Reason} (x : Lined text r) → expression_of text ≡ by_line x.out
  unfolding expression_of
  by-lined x = rw (le-ltb longest_sheet (length text) short, x.is)

  pub line-number : {c : Reason} → Lined text (Err c) → expression_of text ≡ refuse_at 1 (number_of c)
  line-number {c} x = by-lined x ∙ go x.out x.holds
    where
      go : (out : Out) → Holds out (Err c) → by_line out ≡ refuse_at 1 (number_of c)
      go (ok t e) f = absurd f
      go (bad d i) f = ap (λ (k : ℕ). refuse_at 1 k) (sym f)

  module _ (n : NodeList) (x : Lined text (Ok n)) where
    by-tree : (Q : Type 0)
        → ((t : Tree) → expression_of text ≡ cond (ltb most_nodes (tree_size t)) (refuse_at 1 17) (by_nodes (tree_nodes t))
        → n.count ≡ tree_size t → (n.count ≤ most_nodes → listed_nodes n ≡ tree_nodes t) → Q)
        → Q
    by-tree Q f = go x.out x.holds (by-lined x)
      where
        go : (out : Out) → Holds out (Ok n) → expression_of text ≡ by_line out → Q
        go (ok t e) (v, w) q = f t q v w
        go (bad c i) u q = absurd u

    pub too-many : most_nodes < n.count → expression_of text ≡ refuse_at 1 17
    too-many l = by-tree _ (λ t q v w. q ∙ rw (lt-ltb most_nodes (tree_size t) (omega arith)))

    module _ (few : n.count ≤ most_nodes) (long : length n.table ≡ node_places) where
      -- the nodes so far are those of the flat table
      held : table-nodes (take (node_fields * n.count) n.table) ≡ listed_nodes n
      unfolding listed_nodes
      held = nodes-of n.table n.count (omega arith)

      by-fault : expression_of text ≡ by_nodes (listed_nodes n)
      by-fault =
          by-tree _ (λ t q v w. q ∙ rw (le-ltb most_nodes (tree_size t) (omega arith))
          (ap (λ (ns : List Node). by_nodes ns) (sym (w few))))

      pub nodes-refused : {k : ℕ} → some k ≡ nodes_fault (table-nodes (take (node_fields * n.count) n.table))
          → expression_of text ≡ refuse_at 1 k
      nodes-refused {k} e = by-fault ∙ fault-some (listed_nodes n) k (e ∙ ap nodes_fault held)

      pub nodes-accepted : none ≡ nodes_fault (table-nodes (take (node_fields * n.count) n.table))
          → expression_of text ≡ accepted (table_rows (listed_nodes n))
      nodes-accepted e = by-fault ∙ fault-none (listed_nodes n) (e ∙ ap nodes_fault held)

-- ── The answer ──

module _ (places : ℕ) (text : List ℕ) where
  pub into-small : places < node_places → expression_into places text ≡ refuse_at 0 40
  unfolding expression_into
  into-small l = too_small places node_places (expression_of text) l

  module _ (room : node_places ≤ places) where
    pub with-room : expression_into places text ≡ expression_of text
    unfolding expression_into
    with-room = has_room places node_places (expression_of text) room

    pub into-long : longest_sheet < length text → expression_into places text ≡ refuse_at 0 5
    unfolding expression_of
    into-long l = with-room ∙ rw (lt-ltb longest_sheet (length text) l)

    module _ (n : NodeList) (few : n.count ≤ most_nodes) (long : length n.table ≡ node_places) where
      rows-count : length (table_rows (listed_nodes n)) ≡ n.count
      unfolding listed_nodes
      rows-count = length-map (from (node_at_lem n.table) 0 n.count) node_row ∙ length_from (node_at_lem n.table) 0 n.count

      rows-flat : flatten (table_rows (listed_nodes n)) ≡ take (node_fields * n.count) n.table
      unfolding listed_nodes
      rows-flat =
          let m = node_fields * n.count in
          rows-from n.table 0 n.count
          ∙ sym (is-from (λ (i : ℕ). get_or n.table i 0) 0 m (take m n.table) (length-take-le m n.table (omega arith))
          (λ i l. get_or-take m n.table i 0 l))

      pub into-stored : expression_of text ≡ accepted (table_rows (listed_nodes n)) → (table : List ℕ)
          → Stores (expression_into places text) (count n.count) table
          (take (node_fields * n.count) n.table ++ drop (node_fields * n.count) table)
      into-stored e table =
          let h = accepted-reads (expression_into places text) table (table_rows (listed_nodes n)) (with-room ∙ e) in
          record {
            answers = ap (λ (n : ℕ). count n) (sym rows-count) ∙ h.answers;
            table = stored-flat ∙ h.table;
          }
        where
          stored-flat : take (node_fields * n.count) n.table ++ drop (node_fields * n.count) table
              ≡ flatten (table_rows (listed_nodes n)) ++ drop (length (flatten (table_rows (listed_nodes n)))) table
          stored-flat = rw (rows-flat, length-take-le (node_fields * n.count) n.table (omega arith))
