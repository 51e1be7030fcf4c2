-- What the crate's own functions compute and write.
use Rattle.std.specs.Prelude.{ℕ, zero, suc, ◌+◌, ◌-◌, ◌/◌, ◌%◌, ◌^◌, ◌<◌, ◌≤◌, ◌*◌, ◌≡◌, Bool, true, ◌||◌, cond, false, List, [], eqb, ltb, leb, length, set, get_or, ◌⊎◌}
use Rattle.std.proofs.Math.Option.{Option, none, some}
use Rattle.std.specs.Prelude.{Option as Maybe, Some, None}
use Rattle.std.specs.Int.Bits.{bit_or}
use Rattle.usage.specs.Limits.{most_nodes, states, node_fields, step_fields, most_shown, statics, resources}
use Rattle.usage.specs.Outline.{Form, end, static_event, named_event, sequence, choice, loop, back, fresh, sandbox, no_names}
use Rattle.automaton.specs.Mask.{has}
use Rattle.checker_tables.specs.Search.{touched, has_room, Arrived, ArrivesIf}
use Rattle.checker_lengths.specs.declared.Entry.{Entry}
use Rattle.checker_lengths.specs.declared.WatchOne.{WatchOne}
use Rattle.checker_lengths.specs.Entries.{at_break, entry_of, held, all_lengths, no_length}
use Rattle.checker_lengths.specs.Offers.{at_node, low_end_lem, first_entry, second_entry, body_entry, inner_entry, offer_from, ways_of}
use Rattle.checker_lengths.specs.Filling.{form_here, Full}
use Rattle.checker_trace.specs.declared.Onto.{Onto}
use Rattle.usage.specs.Past.{Past}
use Rattle.checker_account.specs.Written.{next, Written}
use Rattle.checker_trace.specs.declared.Spot.{Spot}
use Rattle.checker_trace.specs.declared.Names.{Names}
use Rattle.checker_trace.specs.declared.Part.{Part}
use Rattle.checker_trace.specs.declared.Way.{Way}
use Rattle.usage.specs.declared.Edge.{Edge}
use Rattle.usage.specs.declared.Node.{Node}
use Rattle.usage.specs.Outline as outline
use Rattle.usage.specs.Valid.{Scope}
use Rattle.usage.specs.Tables.{nodes_of}
use Rattle.checker_account.specs.Account.{Aim, watched, broken}
use Rattle.checker_account.specs.Single.{no_name, watching}
use Rattle.checker_account.specs.Least.{Begun, ComeTo, Aimed, Least}
use Rattle.checker_lengths.specs.Held.{aim_at, meaning_of, entries_in, Source, watch_of}
use Rattle.checker_account.specs.Tables.{one_resource, least}
use Rattle.checker_trace.specs.declared.Shortest.{Shortest}
use Rattle.checker_trace.specs.Steps.{laid}

-- ── Where to go on: the nodes that a node leads to with no step, and the rule that is found there ──

-- node k can end with no step, from the entry's start: `t` is the table of lengths
abbrev pub end_in : Entry → ℕ → Entry
end_in e k = entry_of k e.opened e.meaning e.state (low_end_lem e.meaning + e.state % states)

unfoldable pub idle_in : List ℕ → Entry → ℕ → Bool
idle_in t e k = eqb (held t 1 (end_in e k)) 0

-- node k can end with no step where the entry's node is to end: asked at the start that its aim is, which is come to if the node before k
-- comes to the aim
unfoldable pub idle_after_lem : List ℕ → Entry → ℕ → Bool
idle_after_lem t e k = eqb (held t 1 (second_entry e k e.aim)) 0

-- sets of nodes, as bit masks

unfoldable pub bit_of : ℕ → ℕ
bit_of k = cond (ltb k most_nodes) (2 ^ k) 0

abbrev pub bit_if_lem : Bool → ℕ → ℕ
bit_if_lem b k = cond b (bit_of k) 0

unfoldable pub sequence_leads : List ℕ → Entry → ℕ → ℕ → ℕ
sequence_leads t e a b = bit_or (bit_if_lem (eqb e.aim at_break || idle_after_lem t e b) a) (bit_if_lem (idle_in t e a) b)

-- the nodes that a node of this form leads to
unfoldable pub leads_of : List ℕ → Entry → Form → ℕ
leads_of t e end = 0
leads_of t e (static_event a s) = 0
leads_of t e (named_event a n) = 0
leads_of t e (sequence a b) = sequence_leads t e a b
leads_of t e (choice a b) = bit_or (bit_of a) (bit_of b)
leads_of t e (loop a) = bit_of a
leads_of t e (back a) = bit_of a
leads_of t e (fresh n b) = 0
leads_of t e (sandbox s b) = 0

abbrev pub leads_from : List ℕ → Entry → Option Form → ℕ
leads_from t e none = 0
leads_from t e (some f) = leads_of t e f

-- the set s with what its nodes 0, …, n - 1 lead to
unfoldable pub join_if : Bool → ℕ → ℕ → ℕ
join_if b s v = cond b (bit_or s v) s

unfoldable pub spread_to : List ℕ → List ℕ → Entry → ℕ → ℕ → ℕ
spread_to t nodes e zero s = s
spread_to t nodes e (suc k) s = join_if (has (spread_to t nodes e k s) k) (spread_to t nodes e k s) (leads_from t e (form_here nodes k))

-- what spreading comes to from the entry's node, and that it comes to nothing more
pub data Spreads (t nodes : List ℕ) (e : Entry) : ℕ → Type 0 where
  begins : Spreads t nodes e (bit_of e.node)
  further : {s : ℕ} → Spreads t nodes e s → Spreads t nodes e (spread_to t nodes e (length nodes / node_fields) s)

pub record Closure (t nodes : List ℕ) (e : Entry) (s : ℕ) : Type 0 where
  pub spreads : Spreads t nodes e s
  pub still : spread_to t nodes e (length nodes / node_fields) s ≡ s

-- what rule c of a node of this form gives, by the entries of fewer steps than n
abbrev pub offer_below : WatchOne → List ℕ → List ℕ → Option Form → Entry → ℕ → ℕ → ℕ
offer_below w rows t f e n c = offer_from w rows (held t n) e c f

-- no rule gives n; and a rule that does, or that none does
abbrev pub NoRule : WatchOne → List ℕ → List ℕ → Option Form → Entry → ℕ → Type 0
NoRule w rows t f e n = (c : ℕ) → c < ways_of f → offer_below w rows t f e n c ≡ n → ⊥

abbrev pub RuleIs : WatchOne → List ℕ → List ℕ → Option Form → Entry → ℕ → Maybe ℕ → Type 0
RuleIs w rows t f e n (Some c) = offer_below w rows t f e n c ≡ n
RuleIs w rows t f e n None = NoRule w rows t f e n

abbrev pub onto : ℕ → ℕ → Maybe Onto
onto k c = Some (record { node = k; rule = c })

-- where to go on from an entry of n steps
abbrev pub OntoIs : WatchOne → List ℕ → List ℕ → List ℕ → Entry → ℕ → Maybe Onto → Type 0
OntoIs w rows nodes t e n (Some o) =
    (s : ℕ) × Closure t nodes e s × (o.node < length nodes / node_fields) × (has s o.node ≡ true)
    × (offer_below w rows t (form_here nodes o.node) (at_node e o.node) n o.rule ≡ n)
OntoIs w rows nodes t e n None =
    (s : ℕ) × Closure t nodes e s
    × ((k : ℕ) → k < length nodes / node_fields → has s k ≡ true → NoRule w rows t (form_here nodes k) (at_node e k) n)

-- ── Places and names ──

abbrev pub stored_step : List ℕ → ℕ → ℕ → ℕ → ℕ → List ℕ
stored_step t i kind a b = set (set (set t (step_fields * i) kind) (step_fields * i + 1) a) (step_fields * i + 2) b

abbrev pub onward : Spot → Spot
onward s = record { at = s.at + 1; next = s.next }

abbrev pub created : Spot → Spot
created s = record { at = s.at + 1; next = s.next + 1 }

abbrev pub given : Names → ℕ → ℕ → Names
given g i v = record { numbers = set g.numbers i v }

-- the place after this past, with the number of the next fresh resource
pub record Spotted (past : Past) (s : Spot) : Type 0 where
  pub at : s.at ≡ length past
  pub next : s.next ≡ next past

-- ── What is written for an entry of a full table: a part of a run that comes to the aim in its number of steps ──

-- the starts that some run comes to
abbrev pub Coming : WatchOne → List Edge → List ℕ → Bool → ℕ → ℕ → Bool → ℕ → Type 0
Coming w es nodes = ComeTo w.local es (nodes_of nodes) w.policy (watching w.resource)

-- the table is full at them, for these edges
pub record Ready (w : WatchOne) (es : List Edge) (rows nodes t : List ℕ) : Type 0 where
  pub source : Source es (nodes_of nodes) w.policy w.resource rows
  pub least : Least w.local es (nodes_of nodes) w.policy (watching w.resource) (Coming w es nodes) most_shown
      (entries_in t all_lengths)

-- what an entry's numbers say: name n means the watched resource, c tells whether it was created, and the aim; and some run comes to it
pub record Tells (w : WatchOne) (es : List Edge) (nodes : List ℕ) (e : Entry) (n : ℕ) (c : Bool) (aim : Aim Bool) : Type 0 where
  pub meaning : e.meaning ≡ meaning_of n c
  pub number : e.aim ≡ aim_at aim
  pub come : Coming w es nodes e.opened e.node n c e.state
  pub begun : Begun (watching w.resource) n c e.state
  pub aimed : Aimed aim

-- each name in scope at node k means something; and the code's numbers are what names mean
abbrev pub NamesAt : List Node → ℕ → outline.Names → Type 0
NamesAt ns k names = (m : ℕ) → Scope ns k m → (r : ℕ) × (names m ≡ some r)

abbrev pub Agree : outline.Names → Names → Type 0
Agree names g = (m r : ℕ) → names m ≡ some r → get_or g.numbers m 0 ≡ r

-- at most n steps, and at most n creations
pub record WithinSteps (s : Spot) (n : ℕ) (r : Spot) : Type 0 where
  pub at : r.at ≤ s.at + n
  pub next : r.next ≤ s.next + n

-- The steps are those of a part of a run, whatever past there is in the table t₀ before them. t is the table of lengths.
abbrev pub Writes : WatchOne → List ℕ → List ℕ → List ℕ → Entry → ℕ → Names → Spot → List ℕ → Spot → List ℕ → Type 0
Writes w rows nodes t e n g s trace r trace' =
    (es : List Edge) (m : ℕ) (c : Bool) (aim : Aim Bool) (names : outline.Names) (t₀ : List ℕ) (past : Past)
    → Ready w es rows nodes t → Tells w es nodes e m c aim
    → held t all_lengths e ≡ n → NamesAt (nodes_of nodes) e.node names → Agree names g → Spotted past s → trace ≡ laid t₀ past
    → step_fields * (length past + n) ≤ length t₀
    → (after : Past) × Written w.local es (nodes_of nodes) w.policy (watching w.resource) n e.opened e.node names m c
    e.state past aim after
    × Spotted after r × (trace' ≡ laid t₀ after)

-- Asked and promised by each function that writes a part. The nodes are so few that a set of them is a number, the trace has room for the
-- steps, and resources can be numbered on.
pub record Room (nodes : List ℕ) (p : Part) (trace : List ℕ) : Type 0 where
  pub few_nodes : length nodes / node_fields ≤ most_nodes
  pub few : p.steps ≤ most_shown
  pub long : step_fields * (p.spot.at + p.steps) ≤ length trace
  pub numbered : p.spot.next + p.steps < resources

-- The trace keeps its length, no more is written, and it is what is to be.
pub record PartWritten (w : WatchOne) (rows nodes t : List ℕ) (p : Part) (trace : List ℕ) (r : Spot) (trace' : List ℕ) : Type 0 where
  pub length_kept : length trace' ≡ length trace
  pub within : WithinSteps p.spot p.steps r
  pub writes : Writes w rows nodes t p.entry p.steps p.names p.spot trace r trace'

-- rule c of a node of this form is where to go on from an entry of n steps
abbrev pub Chosen : WatchOne → List ℕ → List ℕ → List ℕ → Entry → ℕ → Option Form → ℕ → Type 0
Chosen w rows nodes t e n f c = (k : ℕ) × OntoIs w rows nodes t e n (onto k c) × (form_here nodes k ≡ f)

-- it is where to go on from a part, and there is a step to write
pub record Picked (w : WatchOne) (rows nodes t : List ℕ) (p : Part) (f : Option Form) (c : ℕ) : Type 0 where
  pub chosen : Chosen w rows nodes t p.entry p.steps f c
  pub one : 1 ≤ p.steps

-- the parts that a rule leads to: the first node of a sequence, of v steps, and the second; the body of a fresh node, whose name means what
-- was created; and the body of a sandbox, n steps being around it
abbrev pub first_part_lem : Part → Way → ℕ → Part
first_part_lem p y v = record { entry = first_entry p.entry y.a y.rule; steps = v; names = p.names; spot = p.spot }

abbrev pub second_part_lem : Part → Way → ℕ → Spot → Part
second_part_lem p y v mid = record { entry = second_entry p.entry y.b y.rule; steps = p.steps - v; names = p.names; spot = mid }

abbrev pub body_part_lem : Part → Way → Spot → Part
body_part_lem p y made = record {
  entry = body_entry p.entry y.a y.b y.rule;
  steps = p.steps - 1;
  names = given p.names y.a p.spot.next;
  spot = made;
}

abbrev pub inner_part_lem : WatchOne → Part → Way → ℕ → Spot → Part
inner_part_lem w p y n begun = record { entry = inner_entry w p.entry y.a y.b; steps = p.steps - n; names = p.names; spot = begun }

-- ── The whole outline ──

abbrev pub root_of : ℕ → Entry
root_of x = entry_of 0 false (least (one_resource x)) 0 at_break

-- t is the table of one watched resource; and the search for it hits nothing
abbrev pub TableOf : WatchOne → List ℕ → List ℕ → List ℕ → Type 0
TableOf w rows nodes t = (u : List ℕ) × Arrived nodes w.local rows w.policy (one_resource w.resource) u × Full w rows nodes u t

abbrev pub NeverHits : WatchOne → List ℕ → List ℕ → Type 0
NeverHits w rows nodes = (u : List ℕ) × ArrivesIf (has_room nodes) nodes w.local rows w.policy (one_resource w.resource) u false

abbrev pub TableIf : Bool → WatchOne → List ℕ → List ℕ → List ℕ → Type 0
TableIf true w rows nodes t = TableOf w rows nodes t
TableIf false w rows nodes t = NeverHits w rows nodes

-- the least length with one resource watched, by such a table
abbrev pub StepsIs : WatchOne → List ℕ → List ℕ → ℕ → Type 0
StepsIs w rows nodes r = (t : List ℕ) × TableOf w rows nodes t × (r ≡ held t all_lengths (root_of w.resource))

-- With one resource watched, t' being the table afterwards: its own and the least length by it; or none, where the resource need not be
-- watched or is not hit, and then the table is as it was.
abbrev pub Sought : WatchOne → List ℕ → List ℕ → List ℕ → Maybe ℕ → List ℕ → Type 0
Sought w rows nodes t (Some v) t' = TableOf w rows nodes t' × (v ≡ held t' all_lengths (root_of w.resource))
Sought w rows nodes t None t' = ((touched nodes w.resource ≡ false) ⊎ NeverHits w rows nodes) × (t' ≡ t)

-- the shorter of what was found and v steps with resource x watched, for which the table was filled since
abbrev pub shorter_of : Maybe Shortest → ℕ → ℕ → Shortest
shorter_of None x v = record { resource = x; length = v; kept = true }
shorter_of (Some s) x v =
    cond (leb s.length v) (record { resource = s.resource; length = s.length; kept = false }) (record { resource = x; length = v; kept = true })

abbrev pub length_in : Maybe Shortest → ℕ
length_in None = no_length
length_in (Some s) = s.length

-- what is found is a least length
abbrev pub Told : Bool → ℕ → List ℕ → List ℕ → Maybe Shortest → Type 0
Told local p rows nodes None = Unit {0}
Told local p rows nodes (Some s) = (s.resource ≤ watched) × StepsIs (watch_of local p s.resource) rows nodes s.length

-- and the table is still its own, where that is said
abbrev pub Kept : Bool → ℕ → List ℕ → List ℕ → Maybe Shortest → List ℕ → Type 0
Kept local p rows nodes None t = Unit {0}
Kept local p rows nodes (Some s) t = s.kept ≡ true → TableOf (watch_of local p s.resource) rows nodes t

-- of all watched resources
pub record ShortestIs (local : Bool) (p : ℕ) (rows nodes : List ℕ) (r : Maybe Shortest) : Type 0 where
  pub told : Told local p rows nodes r
  pub least : (x : ℕ) → x ≤ watched → touched nodes x ≡ true
      → NeverHits (watch_of local p x) rows nodes ⊎ ((v : ℕ) × StepsIs (watch_of local p x) rows nodes v × (length_in r ≤ v))

-- what is written where n is that length
abbrev pub Shows : WatchOne → List ℕ → List ℕ → ℕ → List ℕ → List ℕ → Type 0
Shows w rows nodes n trace trace' =
    (es : List Edge) → Source es (nodes_of nodes) w.policy w.resource rows → StepsIs w rows nodes n
    → (after : Past) × Written w.local es (nodes_of nodes) w.policy (watching w.resource) n false 0 no_names no_name
    (ltb w.resource statics) 0 [] (broken none) after
    × (trace' ≡ laid trace after)
