-- What the border calls are made on, and a reader's answer as one number.
use Rattle.std.specs.Prelude.{Result, Ok, Err, ℕ, cond, List, [], ◌∷◌, replicate, set}
use Rattle.usage.specs.Limits.{policies, most_created, most_unclosed, edge_fields}
use Rattle.usage.specs.Answers.{allowed, refused}
use Rattle.usage.specs.declared.SheetRefusal.{SheetRefusal}
use Rattle.usage.specs.Reasons.{number_of}
use Rattle.sheet_reader.specs.declared.PolicySheet.{PolicySheet}
use Rattle.monitor_sets.specs.Instances.{retirees, first_created_lem, set_places}
use Rattle.monitor_state.specs.Judge.{pair_sets}
use Rattle.api_c.specs.Codes.{code_of}
use Rattle.api_c.specs.Parts.{Parts, parts_of}
use Rattle.test_stored.specs.declared.lent.Lent.{Lent}

-- as the judge's answer is told: refused with the number, or allowed where the sheet was accepted
abbrev pub reading_code : Result ℕ SheetRefusal → ℕ
reading_code (Ok n) = code_of allowed
reading_code (Err r) = code_of (refused (number_of r.reason))

-- the same of policies, with 1 where the accepted sheet is local
abbrev pub policies_code_lem : Result PolicySheet SheetRefusal → ℕ
policies_code_lem (Ok s) = cond s.local 1 (code_of allowed)
policies_code_lem (Err r) = code_of (refused (number_of r.reason))

-- one edge of zeros, but for its end
abbrev pub edge_to : ℕ → List ℕ
edge_to to = set (replicate edge_fields 0) 5 to

-- a state like the start, but for the count, the flag and the first two created numbers, the second of them the highest
abbrev pub bordering : ℕ → ℕ → ℕ → ℕ → Parts
bordering count flag first second =
    parts_of (replicate set_places 1) (replicate pair_sets 1) (replicate policies 1)
    (set (set (replicate most_created 0) 0 first) 1 second) (replicate policies 0)
    (replicate most_unclosed 0) (count ∷ flag ∷ 0 ∷ second ∷ [])

-- a state like the start, but that policy 0 has two openings, may be in the states `kept`, and its instance of resource 0 in those of m
abbrev pub disagreeing : ℕ → ℕ → Parts
disagreeing kept m =
    parts_of (set (replicate set_places 1) 0 m) (replicate pair_sets 1) (set (replicate policies 1) 0 kept) (replicate most_created 0)
    (set (replicate policies 0) 0 2) (replicate most_unclosed 0) (0 ∷ 0 ∷ 2 ∷ 0 ∷ [])

-- the arrays of a call as it is lent them
abbrev pub lent_parts : Lent → Parts
lent_parts s = parts_of s.sets (replicate pair_sets 1) s.possible s.created s.unclosed s.order s.numbers

-- a state like the start, but for the order of unclosed openings: its first entry, all others, its length and the counts of policies 1
-- and 6
abbrev pub ordering : ℕ → ℕ → ℕ → ℕ → ℕ → Parts
ordering first rest depth ones sixes =
    parts_of (replicate set_places 1) (replicate pair_sets 1) (replicate policies 1) (replicate most_created 0)
    (set (set (replicate policies 0) 1 ones) 6 sixes) (set (replicate most_unclosed rest) 0 first) (0 ∷ 0 ∷ depth ∷ 0 ∷ [])

-- the same arrays, but that the state is halted
abbrev pub halting : Parts → Parts
halting p = parts_of p.sets p.pairs p.possible p.created p.unclosed p.order (set p.numbers 1 1)

-- the same arrays, but that policy 1 may be in state 6
abbrev pub breaking : Parts → Parts
breaking p = parts_of p.sets p.pairs (set p.possible 1 64) p.created p.unclosed p.order p.numbers

-- a state like the start, but that policy 1 is open, and for what policies 0 and 1 may be in; of policy 0 the set of resource 0 and
-- that of a place that is not in use are m
abbrev pub sandboxing : ℕ → ℕ → ℕ → Parts
sandboxing zeros ones m =
    parts_of (set (set (replicate set_places 1) 0 m) first_created_lem m) (replicate pair_sets 1)
    (set (set (replicate policies 1) 0 zeros) 1 ones) (replicate most_created 0)
    (set (replicate policies 0) 1 1) (replicate most_unclosed 1) (0 ∷ 0 ∷ 1 ∷ 0 ∷ [])

-- a state like the start, but that so many of these two numbers are live, and for the highest
abbrev pub living : ℕ → ℕ → ℕ → ℕ → Parts
living count first second highest =
    parts_of (replicate set_places 1) (replicate pair_sets 1) (replicate policies 1)
    (set (set (replicate most_created 0) 0 first) 1 second) (replicate policies 0)
    (replicate most_unclosed 0) (count ∷ 0 ∷ 0 ∷ highest ∷ [])

-- the same arrays, but for the sets of policy 0 of the first live resource and of the retired
abbrev pub apart : Parts → Parts
apart p =
    parts_of (set (set p.sets first_created_lem 4) retirees 2) p.pairs p.possible p.created p.unclosed p.order p.numbers

-- the same arrays, but that policy 1 is open
abbrev pub opening : Parts → Parts
opening p = parts_of p.sets p.pairs p.possible p.created (set p.unclosed 1 1) (set p.order 0 1) (set p.numbers 2 1)
