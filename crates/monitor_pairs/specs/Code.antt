-- What the functions compute on the way.
use Rattle.std.specs.Prelude.{ℕ, ◌+◌, ◌-◌, ◌/◌, ◌%◌, Bool, ◌&&◌, cond, List, ◌++◌, eqb, ltb, leb, length, get_or, set}
use Rattle.std.specs.Int.Bits.{bit_and, bit_or}
use Rattle.usage.specs.Tables.{from}
use Rattle.automaton.specs.Mask.{union}
use Rattle.automaton.specs.Move.{move_by}
use Rattle.automaton.specs.Code.{stays_by, rows_in}
use Rattle.monitor_sets.specs.Instances.{instances}
use Rattle.monitor_pairs.specs.declared.Ways.{Ways}
use Rattle.monitor_pairs.specs.declared.which.Blocks.{Blocks}
use Rattle.monitor_sets.specs.declared.Turn.{Turn}
use Rattle.monitor_pairs.specs.Pairs.{pair_places, pair_at, taken, event_pairs, gather_pairs, create_pairs}
use Rattle.monitor_pairs.specs.Blocks.{pair_sets, lower_block, upper_block, of_policy}

-- all four ways leave every state where it is
unfoldable pub stays_all : Ways → Bool
stays_all w = stays_by w.neither && (stays_by w.first && (stays_by w.second && stays_by w.both))

-- the first n sets, moved
unfoldable pub run_moved : List ℕ → ℕ → List ℕ → List ℕ
run_moved rows n sets = from (λ k. cond (ltb k n) (move_by rows 0 (get_or sets k 0)) (get_or sets k 0)) 0 pair_places

-- the row of the states m, where one of them is in the set x
unfoldable pub row_where : ℕ → ℕ → ℕ → ℕ
row_where x m row = cond (eqb (bit_and x m) 0) 0 row

-- the set x by two states: what is kept of it, and where they go
unfoldable pub two_moved : ℕ → ℕ → ℕ → ℕ → ℕ → ℕ → ℕ
two_moved keep low lows high highs x = bit_or (bit_or (bit_and x keep) (row_where x low lows)) (row_where x high highs)

-- the first n sets, moved so
unfoldable pub run_by_two : ℕ → ℕ → ℕ → ℕ → ℕ → ℕ → List ℕ → List ℕ
run_by_two keep low lows high highs n sets =
    from (λ k. cond (ltb k n) (two_moved keep low lows high highs (get_or sets k 0)) (get_or sets k 0)) 0 pair_places

-- a row or a column, moved
unfoldable pub line_moved : List ℕ → List ℕ → List ℕ
line_moved rows line = from (λ j. move_by rows 0 (get_or line j 0)) 0 instances

-- the row that starts at place k
unfoldable pub pair_row : ℕ → List ℕ → List ℕ
pair_row k sets = from (λ j. get_or sets (k + j) 0) 0 instances

-- column `at` in the first n rows
unfoldable pub column_of_lem : ℕ → ℕ → List ℕ → List ℕ
column_of_lem n at sets = from (λ i. cond (ltb i n) (pair_at sets i at) 0) 0 instances

-- the first m sets of a row are put at place k
unfoldable pub row_put : ℕ → List ℕ → ℕ → List ℕ → List ℕ
row_put k row m sets = from (λ l. cond (leb k l && ltb l (k + m)) (get_or row (l - k) 0) (get_or sets l 0)) 0 pair_places

-- column `at` of the first n rows is this one
unfoldable pub column_put : ℕ → List ℕ → ℕ → List ℕ → List ℕ
column_put at column n sets =
    from (λ k. cond (ltb (k / instances) n && eqb (k % instances) at) (get_or column (k / instances) 0) (get_or sets k 0)) 0 pair_places

-- the row that starts at place k, joined to a line
unfoldable pub row_joined : ℕ → List ℕ → List ℕ → List ℕ
row_joined k sets line = from (λ j. bit_or (get_or line j 0) (get_or sets (k + j) 0)) 0 instances

-- the union of each column in the first n rows, without row `at`
unfoldable pub beside_columns : ℕ → ℕ → List ℕ → List ℕ
beside_columns n at sets = from (λ j. union n (λ i. cond (eqb i at) 0 (pair_at sets i j))) 0 instances

-- each of the n sets from place s on is the one that was so far behind it
unfoldable pub moved_up : ℕ → ℕ → ℕ → List ℕ → List ℕ
moved_up s n by sets = from (λ l. cond (leb s l && ltb l (s + n)) (get_or sets (l + by) 0) (get_or sets l 0)) 0 pair_places

-- in the row that starts at place k, the second place `at` is retired
unfoldable pub line_retired : ℕ → ℕ → List ℕ → List ℕ
line_retired k at sets =
    from (λ l. cond (leb k l && ltb l (k + instances)) (taken at (instances - 1) (λ j. get_or sets (k + j) 0) (l - k)) (get_or sets l 0)) 0
    pair_places

-- so in the first n rows
unfoldable pub columns_retired : ℕ → ℕ → List ℕ → List ℕ
columns_retired at n sets =
    from (λ k. cond (ltb (k / instances) n) (taken at (instances - 1) (pair_at sets (k / instances)) (k % instances)) (get_or sets k 0)) 0
    pair_places

-- the four ways of policy p, out of four tables of all policies' rows
unfoldable pub ways_in : List ℕ → List ℕ → List ℕ → List ℕ → ℕ → Ways
ways_in neither first second both p = record { neither = rows_in neither p; first = rows_in first p; second = rows_in second p; both = rows_in both p }

-- ── Both blocks ──

-- a block after an event, whose resource is first created where it creates one
unfoldable pub turned : Turn → Ways → List ℕ → List ℕ
turned t w sets = event_pairs w t.at t.n (cond (eqb t.action 0) (create_pairs t.at sets) sets)

-- there are two blocks, so many places, and the event's is among them
abbrev pub takes_turn : Turn → List ℕ → Bool
takes_turn t pairs = eqb (length pairs) pair_sets && (leb t.n instances && ltb t.at t.n)

-- either block, in its ways
unfoldable pub turned_blocks : Blocks → Turn → Ways → Ways → List ℕ → List ℕ
turned_blocks b t lower upper pairs =
    of_policy b.first (λ p. turned t lower) (lower_block pairs) ++ of_policy b.second (λ p. turned t upper) (upper_block pairs)

-- what it leads to, put among what is gathered of all policies
unfoldable pub led_blocks : Blocks → Turn → Ways → Ways → List ℕ → List ℕ → List ℕ
led_blocks b t lower upper pairs after =
    set (set after b.first (gather_pairs t.n (turned t lower (lower_block pairs)))) b.second
    (gather_pairs t.n (turned t upper (upper_block pairs)))
