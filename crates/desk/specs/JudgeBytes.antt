-- The judge's state in the desk's bytes. This file, src/judge.rt and proofs/JudgeByteLaws alone know what that state is made of.
use Rattle.std.specs.Prelude.{ℕ, ◌<◌, ◌≤◌, ◌≡◌, true, false, cond, List, eqb, length, get_or}
use Rattle.usage.specs.Limits.{policies, most_created, most_unclosed}
use Rattle.usage.specs.declared.Reason.{Reason}
use Rattle.monitor_sets.specs.Instances.{set_places}
use Rattle.monitor_state.specs.declared.State.{State}
use Rattle.monitor_state.specs.declared.Sizes.{Sizes}
use Rattle.monitor_state.specs.declared.Judgement.{Judgement}
use Rattle.monitor_state.specs.declared.Told.{Told}
use Rattle.monitor_state.specs.Judge.{pair_sets}
use Rattle.monitor_state.specs.Lent.{Lent, lent_of, state_of, sizes_of}
use Rattle.desk.specs.declared.Head.{Head}
use Rattle.desk.specs.declared.Held.{Held}
use Rattle.desk.specs.Layout.{edges_at, created_at, possible_at, unclosed_at, order_at, sets_at, pairs_at, rows_at, bytes_in, words_in, head_in_lem, Within}
use Rattle.desk.specs.Promise.{is_refusal_lem}

-- its arrays stand in the bytes: those that a step copies, and the sets of pairs, which it lends where they stand
unfoldable pub held_in_lem : List ℕ → Held
held_in_lem b = record {
  sets = bytes_in sets_at set_places b;
  possible = bytes_in possible_at policies b;
  numbers = words_in created_at most_created b;
  counts = bytes_in unclosed_at policies b;
  order = bytes_in order_at most_unclosed b;
}

unfoldable pub pairs_in : List ℕ → List ℕ
pairs_in b = bytes_in pairs_at pair_sets b

abbrev pub lent_by : Held → List ℕ → Lent
lent_by k pairs = lent_of k.sets pairs k.possible k.numbers k.counts k.order

-- and its numbers in the head
abbrev pub sizes_in_lem : Head → Sizes
sizes_in_lem h = record { count = h.count; highest = h.highest; depth = h.depth; halted = eqb h.halted 1 }

unfoldable pub judge_in : List ℕ → Head → State
judge_in b h = state_of (lent_by (held_in_lem b) (pairs_in b)) (sizes_in_lem h)

-- the head with other numbers of the judge, and another number of positions
abbrev pub head_for : Head → Sizes → ℕ → Head
head_for h z positions = record {
  policies = h.policies;
  edges = h.edges;
  nodes = h.nodes;
  positions = positions;
  halted = cond z.halted 1 0;
  count = z.count;
  highest = z.highest;
  depth = z.depth;
}

unfoldable pub head_with : Head → State → ℕ → Head
head_with h s positions = head_for h (sizes_of s) positions

-- how many resources are live and openings unclosed are numbers that the head can hold
abbrev pub SmallSizes : Sizes → Type 0
SmallSizes z = (z.count < 4294967296) × (z.depth < 4294967296)

abbrev pub Small : State → Type 0
Small s = SmallSizes (sizes_of s)

-- the arrays of a state that a step copies
abbrev pub held_of : State → Held
held_of s = record {
  sets = s.tracked.sets;
  possible = s.tracked.possible;
  numbers = s.created.numbers;
  counts = s.unclosed.counts;
  order = s.unclosed.order;
}

-- The judge's part of the bytes, but for the sets of pairs, holds these arrays; all other bytes are as they were.
pub record Copied (b₀ : List ℕ) (k : Held) (b : List ℕ) : Type 0 where
  pub within : Within b₀ created_at pairs_at b
  pub held : held_in_lem b ≡ k

-- The judge's part of the bytes holds the arrays of this state; all other bytes are as they were.
pub record Arrays (b₀ : List ℕ) (s : State) (b : List ℕ) : Type 0 where
  pub within : Within b₀ created_at rows_at b
  pub held : held_in_lem b ≡ held_of s
  pub pairs : pairs_in b ≡ s.tracked.pairs

-- What is told of a judgement, and the bytes after it: as they were where the step is refused, else with its arrays.
pub record JudgedIn (j : Judgement) (b₀ : List ℕ) (t : Told Reason) (b : List ℕ) : Type 0 where
  pub answer : t.answer ≡ j.answer
  pub sizes : t.sizes ≡ sizes_of j.state
  pub refused : is_refusal_lem t.answer ≡ true → b ≡ b₀
  pub taken : is_refusal_lem t.answer ≡ false → Arrays b₀ j.state b

-- The head and the judge's part of the bytes hold these; all other bytes are as they were.
pub record Stored (b₀ : List ℕ) (h : Head) (s : State) (positions : ℕ) (b : List ℕ) : Type 0 where
  pub long : length b ≡ length b₀
  pub head : head_in_lem b ≡ head_with h s positions
  pub judge : judge_in b (head_with h s positions) ≡ s
  pub between : (m : ℕ) → edges_at ≤ m → m < created_at → get_or b m 0 ≡ get_or b₀ m 0
  pub behind : (m : ℕ) → rows_at ≤ m → get_or b m 0 ≡ get_or b₀ m 0
