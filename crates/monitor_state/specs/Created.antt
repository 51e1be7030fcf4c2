-- What is created: the live resources, the places of their instances, and the highest number.
use Rattle.std.specs.Prelude.{ℕ, ◌+◌, ◌-◌, Bool, ◌&&◌, List, take, set, replicate}
use Rattle.usage.specs.Limits.{most_created}
use Rattle.monitor_sets.specs.Instances.{first_created_lem}
unfoldable pub use Rattle.monitor_sets.specs.Created.{listed, distinct, place_from, place_in, created_ok, highest_ok, closed_up}
pub use Rattle.monitor_sets.specs.Created.{dynamic}
use Rattle.monitor_state.specs.declared.Created.{Created}

-- "The state starts with .. nothing created"
unfoldable pub start_created : Created
start_created = record { numbers = replicate most_created 0; count = 0; highest = 0 }

-- the live resources, in the order of their creation
abbrev pub live : Created → List ℕ
live c = take c.count c.numbers

-- "42 a state with more than 64 resources, one listed twice or outside 16 to" the end of the range, 4,294,967,295 (02, L9); "42 also refuses
-- a highest number below a live one"
unfoldable pub live_ok : Created → Bool
live_ok c = created_ok c.count c.numbers && highest_ok c.highest c.count c.numbers

-- the place of x's instance: its own if x is static or live, else that of the unseen ones
unfoldable pub place_of : Created → ℕ → ℕ
place_of c x = place_in x (live c)

-- the instances in use: the static ones, that of the resources that never occurred, that of the retired ones, and the live ones
abbrev pub used : Created → ℕ
used c = first_created_lem + c.count

-- r is created
unfoldable pub with_new : Created → ℕ → Created
with_new c r = record { numbers = set c.numbers c.count r; count = c.count + 1; highest = r }

-- "It frees the place for another create" (02, L8): r is retired
unfoldable pub with_retired : Created → ℕ → Created
with_retired c r = record {
  numbers = closed_up (place_of c r - first_created_lem) c.count c.numbers;
  count = c.count - 1;
  highest = c.highest;
}
