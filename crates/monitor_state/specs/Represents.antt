-- What it is for a state to stand for a past.
use Rattle.std.specs.Prelude.{ℕ, ◌+◌, ◌<◌, ◌≤◌, ◌≡◌, Bool, true, List, [], ◌∷◌, ◌↔◌, length, get_or}
use Rattle.usage.specs.declared.Edge.{Edge}
use Rattle.usage.specs.Limits.{policies, states, most_created, most_unclosed}
use Rattle.usage.specs.Policy.{PairPolicy}
use Rattle.usage.specs.Past.{Past, live_in, highest, Occurs, Retired, openings, closings, open_stack}
use Rattle.usage.specs.Placed.{At}
use Rattle.monitor_sets.specs.Instances.{unseen, retirees, set_places}
use Rattle.automaton.specs.Mask.{has}
use Rattle.monitor_pairs.specs.Tracked.{TracksPairs}
use Rattle.monitor_pairs.specs.Blocks.{pairs_of, lower_block, upper_block}
use Rattle.monitor_state.specs.declared.State.{State}
use Rattle.monitor_state.specs.declared.Tracked.{Tracked}
use Rattle.monitor_state.specs.declared.Created.{Created}
use Rattle.monitor_state.specs.declared.Unclosed.{Unclosed}
use Rattle.monitor_state.specs.Judge.{live, live_ok, place_of, used, pair_sets, set_at, possible_in, openings_of, remembered, unclosed_ok}

-- ── What is tracked ──

-- Place i stands for the number x: a static or live resource has a place of its own; a number that is neither has that of the unseen ones,
-- unless it was retired; and all that have no place of their own have that of the retired ones.
pub data Stands (past : Past) (c : Created) (i x : ℕ) : Type 0 where
  at_own : place_of c x ≡ i → (Retired x past → ⊥) → Stands past c i x
  at_retirees : i ≡ retirees → place_of c x ≡ unseen → Stands past c i x

-- The set at a place holds exactly the states that some instance there may be in: of a policy about one resource.
abbrev pub Tracks : Bool → List Edge → Past → Created → Tracked → Type 0
Tracks local es past c t =
    (p i q : ℕ) → p < policies → (PairPolicy es p → ⊥) → i < used c → q < states
    → (has (set_at t p i) q ≡ true) ↔ At local es p (Stands past c) past (i ∷ []) q

-- "has an instance for each x and y, equal ones too" (02, L10): so the sets of the pair policy p; a block that no policy has holds anything.
abbrev pub TracksBlock : Bool → List Edge → Past → Created → ℕ → List ℕ → Type 0
TracksBlock local es past c p sets = p < policies → TracksPairs local es p (Stands past c) past (used c) sets

-- The set that is kept of p holds exactly the states that some instance of it, wherever it stands, may be in.
abbrev pub Gathers : Bool → List Edge → Past → Created → Tracked → Type 0
Gathers local es past c t =
    (p q : ℕ) → p < policies → q < states
    → (has (possible_in t p) q ≡ true) ↔ ((places : List ℕ) × At local es p (Stands past c) past places q)

-- what is tracked stands for a past, with what is created
pub record HoldsStates (local : Bool) (es : List Edge) (past : Past) (c : Created) (t : Tracked) : Type 0 where
  pub tracks : Tracks local es past c t
  pub lower : TracksBlock local es past c (pairs_of es).first (lower_block t.pairs)
  pub upper : TracksBlock local es past c (pairs_of es).second (upper_block t.pairs)
  pub gathers : Gathers local es past c t
  pub sets_length : length t.sets ≡ set_places
  pub pairs_length : length t.pairs ≡ pair_sets
  pub possible_length : length t.possible ≡ policies
  pub bytes : (k : ℕ) → get_or t.sets k 0 < 256
  pub pair_bytes : (k : ℕ) → get_or t.pairs k 0 < 256
  pub possible_bytes : (p : ℕ) → possible_in t p < 256

-- ── What is created ──

pub record ListsLive (past : Past) (c : Created) : Type 0 where
  pub well : live_ok c ≡ true
  pub lives : live c ≡ live_in past
  pub most : c.highest ≡ highest past
  pub gone : (x : ℕ) → Retired x past → (place_of c x ≡ unseen) × (x ≤ c.highest)
  pub occurred : (x : ℕ) → Occurs x past → place_of c x ≡ unseen → Retired x past
  pub numbers_length : length c.numbers ≡ most_created

-- ── What is not closed ──

pub record CountsOpenings (past : Past) (u : Unclosed) : Type 0 where
  pub well : unclosed_ok u ≡ true
  pub open_count : (p : ℕ) → closings p past + openings_of u p ≡ openings p past
  pub stack : remembered u ≡ open_stack past
  pub counts_length : length u.counts ≡ policies
  pub order_length : length u.order ≡ most_unclosed

-- After this past, with an earlier step violated or not as `h` says, the judge may be in this state.
pub record Represents (local : Bool) (es : List Edge) (past : Past) (h : Bool) (s : State) : Type 0 where
  pub halted : s.halted ≡ h
  pub tracked : HoldsStates local es past s.created s.tracked
  pub created : ListsLive past s.created
  pub unclosed : CountsOpenings past s.unclosed
