-- The node table of a tree (02, L13): "A node is numbered first, then all of its left child, then all of its right."
use Rattle.std.specs.Prelude.{ℕ, suc, ◌+◌, ◌<◌, ◌≡◌, List, [], ◌∷◌, ◌++◌}
use Rattle.std.proofs.Math.Option.{Option, none, some}
use Rattle.usage.specs.declared.Node.{Node}
use Rattle.usage.specs.Limits.{statics, actions, policies, most_names, ◌until◌, Within}
use Rattle.usage.specs.Outline.{Names, no_names, give}
use Rattle.sheet_grammar.specs.Tree.{Tree, end, static_event, named_event, sequence, choice, loop, back, fresh, sandbox}

-- how many nodes a tree has
unfoldable pub tree_size : Tree → ℕ
tree_size end = 1
tree_size (static_event a r) = 1
tree_size (named_event a n) = 1
tree_size (sequence t u) = suc (tree_size t + tree_size u)
tree_size (choice t u) = suc (tree_size t + tree_size u)
tree_size (loop l t) = suc (tree_size t)
tree_size (back l) = 1
tree_size (fresh n t) = suc (tree_size t)
tree_size (sandbox p t) = suc (tree_size t)

-- The number of the loop that each label means, as a name means a resource; a label of no loop around means nothing.
abbrev pub Loops : Type 0
Loops = Names

-- every label means a loop below node k, or none
abbrev pub LoopsBelow : Loops → ℕ → Type 0
LoopsBelow loops k = (l i : ℕ) → loops l ≡ some i → i < k

-- What a back at node k runs again: the loop that its label means. Where it means none, node k itself, which is a back and no loop: so
-- refusal 7.
abbrev pub back_to : Option ℕ → ℕ → ℕ
back_to none k = k
back_to (some j) k = j

abbrev pub node_with : ℕ → ℕ → ℕ → Node
node_with kind a b = record { kind = kind; a = a; b = b }

-- The nodes of a tree, of which the first has the number k. "`h` means the innermost loop of its label": the last given.
unfoldable pub nodes_from : Loops → ℕ → Tree → List Node
nodes_from loops k end = node_with 0 0 0 ∷ []
nodes_from loops k (static_event a r) = node_with 1 a r ∷ []
nodes_from loops k (named_event a n) = node_with 2 a n ∷ []
nodes_from loops k (sequence t u) =
    node_with 3 (suc k) (suc k + tree_size t) ∷ (nodes_from loops (suc k) t ++ nodes_from loops (suc k + tree_size t) u)
nodes_from loops k (choice t u) =
    node_with 4 (suc k) (suc k + tree_size t) ∷ (nodes_from loops (suc k) t ++ nodes_from loops (suc k + tree_size t) u)
nodes_from loops k (loop l t) = node_with 5 (suc k) 0 ∷ nodes_from (give loops l k) (suc k) t
nodes_from loops k (back l) = node_with 6 (back_to (loops l) k) 0 ∷ []
nodes_from loops k (fresh n t) = node_with 7 n (suc k) ∷ nodes_from loops (suc k) t
nodes_from loops k (sandbox p t) = node_with 8 p (suc k) ∷ nodes_from loops (suc k) t

abbrev pub tree_nodes : Tree → List Node
tree_nodes t = nodes_from no_names 0 t

-- A back of label l has no loop of that label around it.
pub data Free (l : ℕ) : Tree → Type 0 where
  here : Free l (back l)
  first : {t u : Tree} → Free l t → Free l (sequence t u)
  second : {t u : Tree} → Free l u → Free l (sequence t u)
  left : {t u : Tree} → Free l t → Free l (choice t u)
  right : {t u : Tree} → Free l u → Free l (choice t u)
  in_loop : {m : ℕ} {t : Tree} → (l ≡ m → ⊥) → Free l t → Free l (loop m t)
  in_fresh : {n : ℕ} {t : Tree} → Free l t → Free l (fresh n t)
  in_sandbox : {p : ℕ} {t : Tree} → Free l t → Free l (sandbox p t)

-- The numbers of a tree are in their ranges: "action a (1 to 31) on static b", "on name b (0 to 3)", "give name a", "open policy a".
unfoldable pub InRange : Tree → Type 0
InRange end = Unit {0}
InRange (static_event a r) = Within (1 until actions) a × Within (0 until statics) r
InRange (named_event a n) = Within (1 until actions) a × Within (0 until most_names) n
InRange (sequence t u) = InRange t × InRange u
InRange (choice t u) = InRange t × InRange u
InRange (loop l t) = InRange t
InRange (back l) = Unit {0}
InRange (fresh n t) = Within (0 until most_names) n × InRange t
InRange (sandbox p t) = Within (0 until policies) p × InRange t
