-- What the rules of `Goes` give for an entry, by the lengths of other entries: `look` tells those. Each rule of a node has a number, c.
use Rattle.std.specs.Prelude.{ℕ, suc, ◌+◌, ◌-◌, ◌%◌, Bool, false, ◌&&◌, ◌||◌, cond, List, eqb, ltb, leb}
use Rattle.std.proofs.Math.Option.{Option, none, some}
use Rattle.usage.specs.Limits.{most_nodes, states}
use Rattle.usage.specs.Past.{reopened}
use Rattle.usage.specs.Outline.{Form, end, static_event, named_event, sequence, choice, loop, back, fresh, sandbox}
use Rattle.automaton.specs.Mask.{has, offends}
use Rattle.checker_account.specs.Tables.{name_of, made, forgotten, rows_in, half}
use Rattle.checker_lengths.specs.declared.Entry.{Entry}
use Rattle.checker_lengths.specs.declared.WatchOne.{WatchOne}
use Rattle.checker_lengths.specs.Entries.{at_break, aims, no_length, entry_of, plus}

-- the same start and aim at node k
abbrev pub at_node : Entry → ℕ → Entry
at_node e k = entry_of k e.opened e.meaning e.state e.aim

-- the same start with aim i
abbrev pub toward : Entry → ℕ → Entry
toward e i = entry_of e.node e.opened e.meaning e.state i

-- the states after the event of the entry's node, which is on the watched resource or not
unfoldable pub moved : List ℕ → Entry → Bool → ℕ
moved rows e own = cond (ltb e.node most_nodes && ltb e.state states) (rows_in rows e.node own false e.state) 0

-- the states after a creation: the watched resource is not created a second time
unfoldable pub born : List ℕ → Entry → Bool → ℕ
born rows e own = cond (own && made e.meaning) 0 (moved rows e own)

-- where the ends begin that leave it as known of the watched resource whether it can be created
abbrev pub low_end_lem : ℕ → ℕ
low_end_lem m = cond (made m) states 0

abbrev pub one_if : Bool → ℕ
one_if b = cond b 1 no_length

-- ── Nodes that take one step, or none ──

unfoldable pub ending_of : ℕ → Entry → ℕ
ending_of v e = cond (ltb e.aim (low_end_lem e.meaning)) no_length
    (one_if (ltb (e.aim - low_end_lem e.meaning) states && has v (e.aim - low_end_lem e.meaning)))

unfoldable pub breaking : ℕ → Entry → ℕ
breaking v e = one_if (eqb e.aim at_break && (e.opened && offends (half false v)))

unfoldable pub event_of : ℕ → Entry → ℕ → ℕ
event_of v e c = cond (eqb c 0) (ending_of v e) (breaking v e)

unfoldable pub still_of : Entry → ℕ
still_of e = cond (eqb e.aim (low_end_lem e.meaning + e.state)) 0 no_length

-- ── Nodes with other nodes in them ──

-- The entries that a rule leads to: the first node of a sequence, to end in way c; the second, after that; the body of a fresh node for
-- name n, after the creation of another resource or of the watched one; and the body of a sandbox.
abbrev pub first_entry : Entry → ℕ → ℕ → Entry
first_entry e a c = entry_of a e.opened e.meaning e.state c

unfoldable pub heir : ℕ → ℕ → ℕ
heir m c = cond (leb states c) (suc (name_of m)) 0

abbrev pub second_entry : Entry → ℕ → ℕ → Entry
second_entry e b c = entry_of b e.opened (heir e.meaning c) (c % states) e.aim

unfoldable pub named : ℕ → ℕ → ℕ → ℕ
named m n c = cond (ltb c states) (forgotten m n) (suc n)

abbrev pub body_entry : Entry → ℕ → ℕ → ℕ → Entry
body_entry e n b c = entry_of b e.opened (named e.meaning n c) (c % states) e.aim

abbrev pub state_in : WatchOne → Entry → ℕ → ℕ
state_in w e s = reopened w.local w.policy s e.opened e.state

abbrev pub inner_entry : WatchOne → Entry → ℕ → ℕ → Entry
inner_entry w e s b = entry_of b (e.opened || eqb s w.policy) e.meaning (state_in w e s) e.aim

unfoldable pub sequence_of : (Entry → ℕ) → Entry → ℕ → ℕ → ℕ → ℕ
sequence_of look e a b c =
    cond (leb at_break c) (cond (eqb e.aim at_break) (look (at_node e a)) no_length)
    (plus (look (first_entry e a c)) (look (second_entry e b c)))

-- the rule of a fresh node by which the creation of the watched resource breaks the policy; that before it is of another's creation
abbrev pub own_break : ℕ
own_break = suc at_break

unfoldable pub fresh_of : List ℕ → (Entry → ℕ) → Entry → ℕ → ℕ → ℕ → ℕ
fresh_of rows look e n b c =
    cond (leb at_break c) (breaking (born rows e (leb own_break c)) e)
    (cond (has (born rows e (leb states c)) (c % states)) (plus 1 (look (body_entry e n b c))) no_length)

-- the opening, and where the aim is to end the closing too
abbrev pub around : Entry → ℕ
around e = cond (eqb e.aim at_break) 1 2

unfoldable pub sandbox_of : WatchOne → (Entry → ℕ) → Entry → ℕ → ℕ → ℕ → ℕ
sandbox_of w look e s b c =
    cond (eqb c 0) (plus (around e) (look (inner_entry w e s b)))
    (one_if (eqb e.aim at_break && (eqb s w.policy && leb 6 (state_in w e s))))

unfoldable pub offer_of : WatchOne → List ℕ → (Entry → ℕ) → Entry → ℕ → Form → ℕ
offer_of w rows look e c end = still_of e
offer_of w rows look e c (static_event a s) = event_of (moved rows e (eqb s w.resource)) e c
offer_of w rows look e c (named_event a n) = event_of (moved rows e (eqb e.meaning (suc n))) e c
offer_of w rows look e c (sequence a b) = sequence_of look e a b c
offer_of w rows look e c (choice a b) = look (at_node e (cond (eqb c 0) a b))
offer_of w rows look e c (loop a) = look (at_node e a)
offer_of w rows look e c (back a) = look (at_node e a)
offer_of w rows look e c (fresh n b) = fresh_of rows look e n b c
offer_of w rows look e c (sandbox s b) = sandbox_of w look e s b c

abbrev pub offer_from : WatchOne → List ℕ → (Entry → ℕ) → Entry → ℕ → Option Form → ℕ
offer_from w rows look e c none = no_length
offer_from w rows look e c (some f) = offer_of w rows look e c f

-- how many rules there are
abbrev pub ways : Form → ℕ
ways end = 1
ways (static_event a s) = 2
ways (named_event a n) = 2
ways (sequence a b) = aims
ways (choice a b) = 2
ways (loop a) = 1
ways (back a) = 1
ways (fresh n b) = suc own_break
ways (sandbox s b) = 2

abbrev pub ways_of : Option Form → ℕ
ways_of none = 0
ways_of (some f) = ways f
