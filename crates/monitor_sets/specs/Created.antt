-- The created resources and the places of their instances.
use Rattle.std.specs.Prelude.{ℕ, suc, ◌+◌, Bool, true, false, not, ◌&&◌, ◌||◌, cond, List, [], ◌∷◌, eqb, leb, ltb, take, get_or}
use Rattle.usage.specs.Limits.{statics, resources, most_created}
use Rattle.usage.specs.Tests.{every}
use Rattle.usage.specs.Tables.{from}
use Rattle.monitor_sets.specs.Instances.{unseen, first_created_lem}

unfoldable pub listed : ℕ → List ℕ → Bool
listed x [] = false
listed x (y ∷ ys) = eqb y x || listed x ys

unfoldable pub distinct : List ℕ → Bool
distinct [] = true
distinct (y ∷ ys) = not (listed y ys) && distinct ys

-- a number that a created resource may have
abbrev pub dynamic : ℕ → Bool
dynamic y = leb statics y && ltb y resources

-- the place of x among the created resources, from n on; that of the unseen ones where it is none of them
unfoldable pub place_from : ℕ → ℕ → List ℕ → ℕ
place_from x n [] = unseen
place_from x n (y ∷ ys) = cond (eqb y x) n (place_from x (suc n) ys)

-- a state whose created resources are these is sound
unfoldable pub created_ok : ℕ → List ℕ → Bool
created_ok count created = leb count most_created && (every dynamic (take count created) && distinct (take count created))

-- "42 also refuses a highest number below a live one" (02, L8)
unfoldable pub highest_ok : ℕ → ℕ → List ℕ → Bool
highest_ok highest count created = every (λ y. leb y highest) (take count created)

-- Once place i of the first n is closed up, place k has what was here: those behind i have moved up by one.
abbrev pub behind : ℕ → ℕ → ℕ → ℕ
behind i n k = cond (leb i k && ltb (k + 1) n) (k + 1) k

-- the created resources once place i of the first n is closed up; the other places keep their contents
unfoldable pub closed_up : ℕ → ℕ → List ℕ → List ℕ
closed_up i n created = from (λ k. get_or created (behind i n k) 0) 0 most_created

-- the place of x's instance, where these are created
unfoldable pub place_in : ℕ → List ℕ → ℕ
place_in x live = cond (ltb x statics) x (place_from x first_created_lem live)
