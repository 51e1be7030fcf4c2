-- The instances of a policy, and the places of their sets: instance i of policy p has its set at p * instances + i.
use Rattle.std.specs.Prelude.{ℕ, ◌+◌, ◌*◌}
use Rattle.usage.specs.Limits.{statics, policies, most_created}

-- the instance of every resource that never occurred; those below are the static resources'
abbrev pub unseen : ℕ
unseen = statics

-- the one set of the retired resources' instances: "its possible states join one set per policy that moves on as an instance other than
-- any resource used" (02, L8)
abbrev pub retirees : ℕ
retirees = unseen + 1

-- the instance of the first live resource; the others' follow
abbrev pub first_created_lem : ℕ
first_created_lem = retirees + 1

abbrev pub instances : ℕ
instances = first_created_lem + most_created

-- the places of the table of sets
abbrev pub set_places : ℕ
set_places = policies * instances
