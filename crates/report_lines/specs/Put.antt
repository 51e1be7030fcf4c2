-- A text put into a lent buffer, from a place on.
use Rattle.std.specs.Prelude.{ℕ, ◌+◌, cond, List, leb, length}
use Rattle.std.proofs.lemmas.List.Edits.{sets}

-- what the buffer then holds: where it lacks so much room from that place on, it keeps all
unfoldable pub put_within : ℕ → List ℕ → ℕ → List ℕ → List ℕ
put_within room buffer at text = cond (leb (at + room) (length buffer)) (sets buffer at text) buffer

-- the place after the text; the same place where the buffer lacks the room
unfoldable pub end_within : ℕ → List ℕ → ℕ → List ℕ → ℕ
end_within room buffer at text = cond (leb (at + room) (length buffer)) (at + length text) at

-- where just the room for the text itself is asked for
abbrev pub put_at : List ℕ → ℕ → List ℕ → List ℕ
put_at buffer at text = put_within (length text) buffer at text

abbrev pub end_at : List ℕ → ℕ → List ℕ → ℕ
end_at buffer at text = end_within (length text) buffer at text
