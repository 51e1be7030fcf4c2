-- Moving a set of states: first over any test of the edges that an event matches, then for an event on a resource.
use Rattle.std.specs.Prelude.{ℕ, zero, suc, ◌+◌, ◌*◌, ◌/◌, ◌%◌, Bool, false, not, ◌&&◌, cond, List, [], ◌∷◌, eqb, get_or}
use Rattle.std.specs.Int.Bits.{bit_or}
use Rattle.usage.specs.declared.Edge.{Edge}
use Rattle.usage.specs.Limits.{policies, states}
use Rattle.usage.specs.Tables.{from}
use Rattle.automaton.specs.Mask.{has, single, union}

-- what one edge adds to the ends of the matching edges from state q
abbrev pub part : (Edge → Bool) → ℕ → Edge → ℕ
part f q e = cond (f e && eqb e.from q) (single e.to) 0

-- the ends of the matching edges from state q
unfoldable pub targets : (Edge → Bool) → List Edge → ℕ → ℕ
targets f [] q = 0
targets f (e ∷ es) q = bit_or (part f q e) (targets f es q)

-- where state q goes: to those ends, or, where there is none, it stays
unfoldable pub image : (Edge → Bool) → List Edge → ℕ → ℕ
image f es q = cond (eqb (targets f es q) 0) (single q) (targets f es q)

-- where the states of the set m go
unfoldable pub move : (Edge → Bool) → List Edge → ℕ → ℕ
move f es m = union states (λ q. cond (has m q) (image f es q) 0)

-- An edge's label matches an event on r; `own` says whether r is the instance's own resource.
abbrev pub labelled : ℕ → ℕ → Bool → ℕ → Bool
labelled zero who own r = eqb r who
labelled (suc zero) who own r = own
labelled (suc (suc zero)) who own r = not own
labelled (suc (suc (suc k))) who own r = false

-- the edge is of policy p and matches the event a(r)
abbrev pub fires : ℕ → ℕ → ℕ → Bool → Edge → Bool
fires p a r own e = (eqb e.policy p && eqb e.action a) && labelled e.on e.who own r

-- The same for an instance with one place or two: `first` and `second` say whether r is at these of its places. With one place, `second`
-- is false, and this is `labelled`.
abbrev pub labelled_at : ℕ → ℕ → Bool → Bool → ℕ → Bool
labelled_at zero who first second r = eqb r who
labelled_at (suc zero) who first second r = first
labelled_at (suc (suc zero)) who first second r = cond second false (not first)
labelled_at (suc (suc (suc zero))) who first second r = second
labelled_at (suc (suc (suc (suc k)))) who first second r = false

abbrev pub fires_at : ℕ → ℕ → ℕ → Bool → Bool → Edge → Bool
fires_at p a r first second e = (eqb e.policy p && eqb e.action a) && labelled_at e.on e.who first second r

-- the set m of states of an instance of policy p, moved by the event a(r)
unfoldable pub move_mask : List Edge → ℕ → ℕ → ℕ → Bool → ℕ → ℕ
move_mask es p a r own m = move (fires p a r own) es m

-- the places of a table of rows: one for each state of each policy
abbrev pub row_places : ℕ
row_places = policies * states

-- The rows of an event: element p * states + q says where state q of policy p goes.
unfoldable pub rows_of : List Edge → ℕ → ℕ → Bool → List ℕ
rows_of es a r own = from (λ k. image (fires (k / states) a r own) es (k % states)) 0 row_places

-- those for an instance that has r at its first place, its second, both or neither
unfoldable pub rows_at : List Edge → ℕ → ℕ → Bool → Bool → List ℕ
rows_at es a r first second = from (λ k. image (fires_at (k / states) a r first second) es (k % states)) 0 row_places

-- the set m moved by eight rows, from place k on
unfoldable pub move_by : List ℕ → ℕ → ℕ → ℕ
move_by rows k m = union states (λ q. cond (has m q) (get_or rows (k + q) 0) 0)
