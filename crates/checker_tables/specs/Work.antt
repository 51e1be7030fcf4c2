-- Which nodes must be settled again once a node's ends have changed: those whose rules read them.
use Rattle.std.specs.Prelude.{ℕ, ◌/◌, ◌^◌, cond, List, length, replicate}
use Rattle.std.proofs.Math.Option.{Option, none, some}
use Rattle.usage.specs.Limits.{most_nodes, node_fields}
use Rattle.usage.specs.Outline.{Form, end, static_event, named_event, sequence, choice, loop, back, fresh, sandbox}
use Rattle.checker_account.specs.Tables.{joined_at}
use Rattle.checker_account.specs.Filling.{repeat, Forms, forms_in}
use Rattle.checker_tables.specs.Search.{has_room}

-- for each node a set of nodes, as a mask: node k joined to the sets of the nodes that its rule reads
unfoldable pub noted : ℕ → Option Form → List ℕ → List ℕ
noted k none u = u
noted k (some end) u = u
noted k (some (static_event a s)) u = u
noted k (some (named_event a n)) u = u
noted k (some (sequence a b)) u = joined_at (joined_at u a (2 ^ k)) b (2 ^ k)
noted k (some (choice a b)) u = joined_at (joined_at u a (2 ^ k)) b (2 ^ k)
noted k (some (loop a)) u = joined_at u a (2 ^ k)
noted k (some (back a)) u = joined_at u a (2 ^ k)
noted k (some (fresh n b)) u = joined_at u b (2 ^ k)
noted k (some (sandbox s b)) u = joined_at u b (2 ^ k)

-- of each node, those of n nodes that read it
unfoldable pub readers_of : ℕ → Forms → List ℕ
readers_of n forms = repeat (λ k. noted k (forms k)) n (replicate most_nodes 0)

-- those of a flat table of nodes: none where the tables have no room for them
abbrev pub readers_in : List ℕ → List ℕ
readers_in t = cond (has_room t) (readers_of (length t / node_fields) (forms_in t)) (replicate most_nodes 0)
