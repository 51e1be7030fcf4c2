-- The table of rows of one policy: of each node with an event, the states that each state moves to by it.
use Rattle.std.specs.Prelude.{ℕ, suc, ◌+◌, ◌*◌, Bool, true, false, cond, List, get_or, set}
use Rattle.std.proofs.Math.Option.{Option, none, some}
use Rattle.usage.specs.Limits.{create, states}
use Rattle.usage.specs.Outline.{Form, end, static_event, named_event, sequence, choice, loop, back, fresh, sandbox}
use Rattle.checker_account.specs.Account.{others}
use Rattle.checker_account.specs.Tables.{way_of, row_at}
use Rattle.checker_account.specs.Filling.{repeat, Forms}

-- The tables of an event: `tables a r first second` holds at p * states + q the states that state q of policy p moves to by the event
-- a(r), for the instance whose first resource is r or not, and whose second one is or not.
abbrev pub EventTables : Type 0
EventTables = ℕ → ℕ → Bool → Bool → List ℕ

abbrev pub image_in : EventTables → ℕ → ℕ → ℕ → Bool → Bool → ℕ → ℕ
image_in tables p a r first second q = get_or (tables a r first second) (p * states + q) 0

-- the rows of policy p out of two tables of an event, on the first resource and on another, stored for node k: one after the other from
-- this way on
abbrev pub store_row : ℕ → ℕ → ℕ → List ℕ → List ℕ → ℕ → List ℕ → List ℕ
store_row k way p own other q r =
    set (set r (row_at k way + q) (get_or other (p * states + q) 0)) (row_at k (suc way) + q) (get_or own (p * states + q) 0)

unfoldable pub rows_stored : ℕ → ℕ → ℕ → List ℕ → List ℕ → List ℕ → List ℕ
rows_stored k way p own other r = repeat (store_row k way p own other) states r

-- where the second resource is that of the event or not
abbrev pub side_rows : EventTables → Bool → ℕ → ℕ → ℕ → ℕ → List ℕ → List ℕ
side_rows tables second p k a s r = rows_stored k (way_of false second) p (tables a s true second) (tables a s false second) r

-- both, for a pair policy
abbrev pub event_rows_lem : EventTables → Bool → ℕ → ℕ → ℕ → ℕ → List ℕ → List ℕ
event_rows_lem tables pair p k a s r = cond pair (side_rows tables true p k a s (side_rows tables false p k a s r)) (side_rows tables false p k a s r)

-- a name and a creation are on a resource that no edge names
unfoldable pub node_rows : EventTables → Bool → ℕ → ℕ → Option Form → List ℕ → List ℕ
node_rows tables pair p k none r = r
node_rows tables pair p k (some end) r = r
node_rows tables pair p k (some (static_event a s)) r = event_rows_lem tables pair p k a s r
node_rows tables pair p k (some (named_event a n)) r = event_rows_lem tables pair p k a others r
node_rows tables pair p k (some (sequence a b)) r = r
node_rows tables pair p k (some (choice a b)) r = r
node_rows tables pair p k (some (loop a)) r = r
node_rows tables pair p k (some (back a)) r = r
node_rows tables pair p k (some (fresh n b)) r = event_rows_lem tables pair p k create others r
node_rows tables pair p k (some (sandbox s b)) r = r

unfoldable pub fill_rows : EventTables → Bool → ℕ → ℕ → Forms → List ℕ → List ℕ
fill_rows tables pair p n forms r = repeat (λ k. node_rows tables pair p k (forms k)) n r
