-- What only the functions compute: what their types stand for, the nodes so far, and what the readers of a phrase answer.
use Rattle.std.specs.Prelude.{ℕ, suc, ◌+◌, ◌<◌, ◌≤◌, ◌≡◌, cond, List, [], ◌∷◌, ◌++◌, map, eqb, ltb, min, get_or, length, take, drop, replicate, Option as Maybe, Some, None, Result, Ok, Err}
use Rattle.std.proofs.Math.Option.{Option, none, some}
use Rattle.std.proofs.Math.ListN.{get_elem?}
use Rattle.usage.specs.declared.Node.{Node}
use Rattle.usage.specs.declared.Reason.{Reason}
use Rattle.usage.specs.declared.Reason.TheVariants.{ExpressionByte}
use Rattle.usage.specs.Reasons.{number_of}
use Rattle.usage.specs.Limits.{most_nodes, longest_sheet}
use Rattle.usage.specs.Answers.{Refusal}
use Rattle.usage.specs.Outline.{give}
use Rattle.usage.specs.Tests.{every, node_ok, ruled}
use Rattle.usage.specs.Tables.{from, node_at_lem}
use Rattle.sheet_lines.specs.Sheet.{accepted, refuse_at}
use Rattle.sheet_grammar.specs.Tree.{Tree}
use Rattle.sheet_grammar.specs.Grammar.{Bracket, closer, Phrase, labels, most_nested}
use Rattle.sheet_grammar.specs.Outcome.{Out, ok, bad}
use Rattle.sheet_grammar.specs.Nodes.{tree_size, Loops, LoopsBelow, back_to, node_with, nodes_from, tree_nodes}
use Rattle.sheet_grammar.specs.Reader.{byte_is, Num, number, missing, Head, atom, opens, wrong, read, line_of}
use Rattle.sheet_grammar.specs.Rules.{Reads}
use Rattle.sheet_expression.specs.Expression.{table_rows, expression_of}
use Rattle.sheet_expression.specs.declared.items.Num as nums
use Rattle.sheet_expression.specs.declared.items.Leaf.{Leaf}
use Rattle.sheet_expression.specs.declared.items.Leaf.TheVariants as leaf
use Rattle.sheet_expression.specs.declared.items.Bracket as brackets
use Rattle.sheet_expression.specs.declared.items.Bracket.TheVariants as bracket
use Rattle.sheet_expression.specs.declared.items.Head as heads
use Rattle.sheet_expression.specs.declared.items.Head.TheVariants as head
use Rattle.sheet_expression.specs.declared.items.Letter.{Letter}
use Rattle.sheet_expression.specs.declared.items.Letter.TheVariants as letters
use Rattle.sheet_expression.specs.declared.numbering.NodeList.{NodeList}
use Rattle.sheet_expression.specs.declared.phrases.Read.{Read}

-- ── What the types stand for ──

abbrev pub digit_of : Maybe ℕ → Option ℕ
digit_of (Some d) = some d
digit_of None = none

abbrev pub num_of : Result nums.Num ℕ → Num
num_of (Ok n) = number n.value n.end
num_of (Err i) = missing i

abbrev pub leaf_of : Leaf → Tree
leaf_of leaf.End = Tree.end
leaf_of (leaf.Static a r) = Tree.static_event a r
leaf_of (leaf.Name a n) = Tree.named_event a n
leaf_of (leaf.Back l) = Tree.back l

abbrev pub bracket_of : brackets.Bracket → Bracket
bracket_of bracket.Round = Bracket.round
bracket_of (bracket.Loop l) = Bracket.loop l
bracket_of (bracket.Fresh n) = Bracket.fresh n
bracket_of (bracket.Sandbox p) = Bracket.sandbox p

abbrev pub head_of : Result heads.Head ℕ → Head
head_of (Ok (head.Atom l e)) = atom (leaf_of l) e
head_of (Ok (head.Opens b i)) = opens (bracket_of b) i
head_of (Err i) = wrong i

-- the bracket that a number makes, at the place that stands with it
abbrev pub opened_by : (ℕ → Bracket) → Result nums.Num ℕ → Head
opened_by k (Ok n) = opens (k n.value) n.end
opened_by k (Err i) = wrong i

-- the item that a number makes, up to the place that stands with it
abbrev pub atom_by : (ℕ → Tree) → Result nums.Num ℕ → Head
atom_by k (Ok n) = atom (k n.value) n.end
atom_by k (Err i) = wrong i

abbrev pub event_tree : Letter → ℕ → ℕ → Tree
event_tree letters.Static = λ a r. Tree.static_event a r
event_tree letters.Name = λ a n. Tree.named_event a n

abbrev pub letter_of : Maybe Letter → Option (ℕ → ℕ → Tree)
letter_of (Some l) = some (event_tree l)
letter_of None = none

-- ── The nodes so far, and how they move up by one where a node is put before them ──

unfoldable pub listed_nodes : NodeList → List Node
listed_nodes n = from (node_at_lem n.table) 0 n.count

-- one more, where a byte holds it
unfoldable pub up_one : ℕ → ℕ
up_one x = min (x + 1) 255

-- the fields of a node that moves: kinds 3 and 4 have two children, 5 has one in a, 7 and 8 one in b; a back's loop moves if it is none
-- before `start`
unfoldable pub moved_a_lem : ℕ → ℕ → ℕ → ℕ
moved_a_lem kind start a = cond (ltb kind 3) a (cond (ltb kind 6) (up_one a) (cond (eqb kind 6) (cond (ltb a start) a (up_one a)) a))

unfoldable pub moved_b_lem : ℕ → ℕ → ℕ
moved_b_lem kind b = cond (ltb kind 3) b (cond (ltb kind 5) (up_one b) (cond (ltb kind 7) b (cond (ltb kind 9) (up_one b) b)))

unfoldable pub shifted : ℕ → Node → Node
shifted start n = node_with n.kind (moved_a_lem n.kind start n.a) (moved_b_lem n.kind n.b)

-- ── Labels ──

-- the loop of each label, if it has one
unfoldable pub loops_of : List (Maybe ℕ) → Loops
loops_of ls l = digit_of (get_or ls l None)

-- no label means a loop
abbrev pub no_loops : List (Maybe ℕ)
no_loops = replicate labels None

abbrev pub meant_loop : List (Maybe ℕ) → ℕ → ℕ → ℕ
meant_loop ls l k = back_to (loops_of ls l) k

-- ── Nodes ──

-- the nodes r are those of a and then those of t
pub record Grown (loops : Loops) (a r : NodeList) (t : Tree) : Type 0 where
  pub count : r.count ≡ a.count + tree_size t
  pub nodes : r.count ≤ most_nodes → listed_nodes r ≡ listed_nodes a ++ nodes_from loops a.count t

abbrev pub next_number : ℕ → ℕ
next_number k = cond (ltb k most_nodes) (k + 1) 0

-- the node of a bracket
abbrev pub bracket_nodes : Bracket → ℕ → List Node
bracket_nodes Bracket.round k = []
bracket_nodes (Bracket.loop l) k = node_with 5 (suc k) 0 ∷ []
bracket_nodes (Bracket.fresh n) k = node_with 7 n (suc k) ∷ []
bracket_nodes (Bracket.sandbox p) k = node_with 8 p (suc k) ∷ []

-- what the labels mean inside it
abbrev pub inside_of : Bracket → Loops → ℕ → Loops
inside_of Bracket.round loops k = loops
inside_of (Bracket.loop l) loops k = give loops l k
inside_of (Bracket.fresh n) loops k = loops
inside_of (Bracket.sandbox p) loops k = loops

pub record Opened (b : Bracket) (a r : NodeList) : Type 0 where
  pub count : r.count ≡ a.count + length (bracket_nodes b a.count)
  pub nodes : r.count ≤ most_nodes → listed_nodes r ≡ listed_nodes a ++ bracket_nodes b a.count

abbrev pub loop_bracket : ℕ → Bracket
loop_bracket l = Bracket.loop l

-- labels are one digit
abbrev pub LabelOk : Bracket → Type 0
LabelOk Bracket.round = Unit {0}
LabelOk (Bracket.loop l) = l < labels
LabelOk (Bracket.fresh n) = Unit {0}
LabelOk (Bracket.sandbox p) = Unit {0}

pub record Bound (b : Bracket) (ls : List (Maybe ℕ)) (k : ℕ) (r : List (Maybe ℕ)) : Type 0 where
  pub means : LabelOk b → k < most_nodes → (l : ℕ) → loops_of r l ≡ inside_of b (loops_of ls) k l
  pub below : LoopsBelow (loops_of ls) k → LoopsBelow (loops_of r) (k + length (bracket_nodes b k))

-- ── Answers ──

abbrev pub closer_of : Bracket → ℕ
closer_of b = closer b

-- r, where its bracket is closed
abbrev pub closed_by : List ℕ → Bracket → Read → Result Read Reason
closed_by s b r =
    cond (byte_is (get_elem? s r.at) (closer b)) (Ok (record { nodes = r.nodes; at = r.at + 1 })) (Err ExpressionByte)

-- a node put before those from `start` on
pub record Joined (kind start right : ℕ) (n q : NodeList) : Type 0 where
  pub count : q.count ≡ n.count + 1
  pub nodes : n.count < most_nodes
      → listed_nodes q ≡ take start (listed_nodes n) ++
      (node_with kind (start + 1) (right + 1) ∷ map (shifted start) (drop start (listed_nodes n)))

-- where the readers may begin: in a text that is not too long, with at most one node for each byte that was read, and labels that mean
-- nodes which are there
pub record Readable (s : List ℕ) (from : Read) (loops : List (Maybe ℕ)) : Type 0 where
  pub short : length s ≤ longest_sheet
  pub within : from.at ≤ length s
  pub few : from.nodes.count ≤ from.at
  pub below : LoopsBelow (loops_of loops) from.nodes.count

abbrev pub Fits : Loops → NodeList → Out → Result Read Reason → Type 0
Fits loops a (ok t e) (Ok r) = (r.at ≡ e) × Grown loops a r.nodes t
Fits loops a (ok t e) (Err c) = ⊥
Fits loops a (bad d i) (Ok r) = ⊥
Fits loops a (bad d i) (Err c) = number_of c ≡ d

-- what a reader of the part p answers at a place
pub record PhraseAnswer (p : Phrase) (s : List ℕ) (at nest : ℕ) (loops : List (Maybe ℕ)) (a : NodeList) (r : Result Read Reason) : Type 0 where
  pub out : Out
  pub reads : Reads s (read p) at nest out
  pub fits : Fits (loops_of loops) a out r

-- ── The line, and the refusals of its nodes ──

abbrev pub rule_number : Option Refusal → Option ℕ
rule_number none = none
rule_number (some r) = some r.number

-- 3, or the number of the rule that is broken
unfoldable pub nodes_fault : List Node → Option ℕ
nodes_fault ns = cond (every node_ok ns) (rule_number (ruled ns)) (some 3)

abbrev pub refusal_in : Result Unit Reason → Option ℕ
refusal_in (Ok x) = none
refusal_in (Err c) = some (number_of c)

-- a line, with its nodes where they are at most 64, or why it is refused
abbrev pub Holds : Out → Result NodeList Reason → Type 0
Holds (ok t e) (Ok n) = (n.count ≡ tree_size t) × (n.count ≤ most_nodes → listed_nodes n ≡ tree_nodes t)
Holds (ok t e) (Err c) = ⊥
Holds (bad d i) (Ok n) = ⊥
Holds (bad d i) (Err c) = number_of c ≡ d

pub record Lined (text : List ℕ) (r : Result NodeList Reason) : Type 0 where
  pub out : Out
  pub is : line_of most_nested text ≡ out
  pub holds : Holds out r

-- the nodes of a line that is in order, or why it is refused
abbrev pub Outlined : List ℕ → Result NodeList Reason → Type 0
Outlined text (Ok n) = (n.count ≤ most_nodes) × (expression_of text ≡ accepted (table_rows (listed_nodes n)))
Outlined text (Err c) = expression_of text ≡ refuse_at 1 (number_of c)
