-- The layout of a table of lengths, and single entries of it.
use Rattle.std.specs.Prelude.{ℕ, suc, ◌+◌, ◌*◌, ◌<◌, Bool, true, false, ◌&&◌, cond, List, ltb, leb, get_or}
use Rattle.usage.specs.Limits.{most_nodes, states, most_shown}
use Rattle.checker_account.specs.Tables.{meanings, places}
use Rattle.checker_lengths.specs.declared.Entry.{Entry}

-- the aim to break the policy; those below it are ends, numbered as in the table of ends
abbrev pub at_break : ℕ
at_break = 2 * states

abbrev pub aims : ℕ
aims = suc at_break

-- the starts of a node: a meaning and a state
abbrev pub starts : ℕ
starts = meanings * states

-- an entry for each aim of each start of each node, the policy being open or not
abbrev pub size : ℕ
size = 2 * places * aims

-- a length is 0 to 200, and this stands where there is none
abbrev pub no_length : ℕ
no_length = 255

abbrev pub all_lengths : ℕ
all_lengths = suc most_shown

abbrev pub entry_of : ℕ → Bool → ℕ → ℕ → ℕ → Entry
entry_of k o m q i = record { node = k; opened = o; meaning = m; state = q; aim = i }

abbrev pub nodes_before : Bool → ℕ
nodes_before false = 0
nodes_before true = most_nodes

abbrev pub linear : Entry → ℕ
linear e = ((nodes_before e.opened + e.node) * starts + (states * e.meaning + e.state)) * aims + e.aim

unfoldable pub in_table : Entry → Bool
in_table e = ltb e.node most_nodes && (ltb e.meaning meanings && (ltb e.state states && ltb e.aim aims))

-- the same, number by number
pub record Bounds (e : Entry) : Type 0 where
  pub node : e.node < most_nodes
  pub meaning : e.meaning < meanings
  pub state : e.state < states
  pub aim : e.aim < aims

-- v, if it is less than `most`
unfoldable pub below : ℕ → ℕ → ℕ
below most v = cond (ltb v most) v no_length

-- the length that the table holds, of those less than `most`
unfoldable pub held : List ℕ → ℕ → Entry → ℕ
held t most e = cond (in_table e) (below most (get_or t (linear e) 0)) no_length

-- the sum of two lengths, if it is one
unfoldable pub plus : ℕ → ℕ → ℕ
plus a b = cond (leb (a + b) most_shown) (a + b) no_length
