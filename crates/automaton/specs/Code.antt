-- What the leaf functions leave in a table of rows, place p * states + q being that of state q of policy p.
use Rattle.std.specs.Prelude.{ℕ, ◌+◌, ◌*◌, ◌/◌, ◌%◌, Bool, ◌&&◌, cond, List, [], ◌∷◌, eqb, ltb, get_or, set}
use Rattle.std.specs.Int.Bits.{bit_or, bit_xor}
use Rattle.usage.specs.declared.Edge.{Edge}
use Rattle.usage.specs.Limits.{policies, states}
use Rattle.usage.specs.Tables.{from}
use Rattle.automaton.specs.Mask.{single}
use Rattle.automaton.specs.Move.{targets, labelled_at, fires_at, row_places, move_by}

-- the end of an edge whose label matches an event on r, as a set; else the empty set. `first` and `second` say which places r has.
abbrev pub end_of : ℕ → ℕ → ℕ → Bool → Bool → ℕ → ℕ
end_of on who to first second r = cond (labelled_at on who first second r) (single to) 0

-- the table with the set m joined to what stands at state q of policy p; a number that is no policy or no state has no place
unfoldable pub joined : List ℕ → ℕ → ℕ → ℕ → List ℕ
joined t p q m = cond (ltb p policies && ltb q states) (set t (p * states + q) (bit_or (get_or t (p * states + q) 0) m)) t

-- the table with the end of the edge e joined, where its action is a
unfoldable pub followed : List ℕ → Edge → ℕ → ℕ → Bool → Bool → List ℕ
followed t e a r first second =
    cond (eqb e.action a) (joined t e.policy e.from (end_of e.on e.who e.to first second r)) t

-- the ends of the edges that an event matches, at each place
unfoldable pub edge_ends : List Edge → ℕ → ℕ → Bool → Bool → List ℕ
edge_ends es a r first second = from (λ k. targets (fires_at (k / states) a r first second) es (k % states)) 0 row_places

-- "with no matching edge from that state it stays": where no end is, the state itself
unfoldable pub stayed : List ℕ → List ℕ
stayed t = from (λ k. cond (eqb (get_or t k 0) 0) (single (k % states)) (get_or t k 0)) 0 row_places

-- what eight rows change: 0 where each leaves its state where it is
abbrev pub changed : ℕ → ℕ → ℕ → ℕ → ℕ → ℕ → ℕ → ℕ → ℕ
changed a b c d e f g h =
    bit_or (bit_or (bit_or (bit_or (bit_or (bit_or (bit_or (bit_xor a 1) (bit_xor b 2)) (bit_xor c 4)) (bit_xor d 8)) (bit_xor e 16)) (bit_xor f 32))
    (bit_xor g 64)) (bit_xor h 128)

-- eight rows leave every state where it is
unfoldable pub stays_by : List ℕ → Bool
stays_by l =
    eqb (changed (get_or l 0 0) (get_or l 1 0) (get_or l 2 0) (get_or l 3 0) (get_or l 4 0) (get_or l 5 0) (get_or l 6 0) (get_or l 7 0)) 0

-- the eight rows of policy p in a table of all policies' rows
unfoldable pub policy_rows_lem : List ℕ → ℕ → List ℕ
policy_rows_lem table p = from (λ q. get_or table (p * states + q) 0) 0 states

-- rows that leave every state where it is
abbrev pub stay_rows_lem : List ℕ
stay_rows_lem = 1 ∷ 2 ∷ 4 ∷ 8 ∷ 16 ∷ 32 ∷ 64 ∷ 128 ∷ []

-- the same of a number that may be no policy
unfoldable pub rows_in : List ℕ → ℕ → List ℕ
rows_in table p = cond (ltb p policies) (policy_rows_lem table p) stay_rows_lem

-- the set m moved by the rows of policy p; there is no other policy than the eight, and nothing moves
unfoldable pub move_by_policy : List ℕ → ℕ → ℕ → ℕ
move_by_policy rows p m = cond (ltb p policies) (move_by rows (p * states) m) m
