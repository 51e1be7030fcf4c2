-- Positions of an outline: "all the different lists of parts that runs with the steps so far can hold".
use Rattle.std.specs.Prelude.{ℕ, zero, suc, ◌<◌, ◌≤◌, ◌≡◌, Bool, true, false, not, ◌&&◌, cond, eqb, leb, length, get_or, set, replicate}
use Rattle.std.proofs.Math.Option.{Option, none, some}
use mathlib.Core.List.{List, [], ◌∷◌, ◌++◌, map, Memᴰ}
use Rattle.usage.specs.declared.Node.{Node}
use Rattle.usage.specs.Limits.{statics, create, most_names}
use Rattle.usage.specs.Past.{Step, event, opening, closing, retiring, Past, Occurs}
use Rattle.usage.specs.Outline.{Form, end, static_event, named_event, sequence, choice, loop, back, fresh, sandbox, form_at}
use Rattle.usage.specs.Outline.{Names, Part, node, close, Runs}
use Rattle.desk_positions.specs.Closure.{Different, reached}

-- ── The papers' positions ──

-- "The desk lists at most 64 outline positions, each with at most 16 parts still to run"
abbrev pub most_positions : ℕ
most_positions = 64

abbrev pub most_parts : ℕ
most_parts = 16

-- a run with these steps can hold these parts
abbrev pub Held : List Node → Past → List Part → Type 0
Held ns past parts = Runs ns (record { past = past; parts = parts })

-- "once that is exceeded": after these steps there are more than 64 different lists of parts, or one of more than 16 parts
pub data Exceeds (ns : List Node) (past : Past) : Type 0 where
  too_many : (lists : List (List Part)) → Different lists → most_positions < length lists
      → ((parts : List Part) → Memᴰ parts lists → Held ns past parts) → Exceeds ns past
  too_long : (parts : List Part) → Held ns past parts → most_parts < length parts → Exceeds ns past

-- ── Positions that can be written down ──

-- What the four names mean: a dynamic resource, or 0 for nothing.
abbrev pub Meanings : Type 0
Meanings = List ℕ

abbrev pub meaning_of : ℕ → Option ℕ
meaning_of zero = none
meaning_of (suc r) = some (suc r)

abbrev pub names_in : Meanings → Names
names_in l n = meaning_of (get_or l n 0)

abbrev pub nothing_meant : Meanings
nothing_meant = replicate most_names 0

-- a part: a node with what each name means, or a closing
pub data Item : Type 0 where
  at : ℕ → Meanings → Item
  shut : ℕ → Item

abbrev pub Position : Type 0
Position = List Item

abbrev pub part_of : Item → Part
part_of (at k l) = node k (names_in l)
part_of (shut p) = close p

abbrev pub parts_of : Position → List Part
parts_of c = map part_of c

-- each part has four meanings
abbrev pub ItemOk : Item → Type 0
ItemOk (at k l) = length l ≡ most_names
ItemOk (shut p) = Unit {0}

abbrev pub PositionOk : Position → Type 0
PositionOk [] = Unit {0}
PositionOk (i ∷ c) = ItemOk i × PositionOk c

-- two of them are the same: as tests
unfoldable pub same_meanings : Meanings → Meanings → Bool
same_meanings [] [] = true
same_meanings [] (r ∷ l) = false
same_meanings (r ∷ l) [] = false
same_meanings (r ∷ l) (s ∷ k) = eqb r s && same_meanings l k

abbrev pub same_item : Item → Item → Bool
same_item (at k l) (at j m) = eqb k j && same_meanings l m
same_item (at k l) (shut p) = false
same_item (shut p) (at k l) = false
same_item (shut p) (shut s) = eqb p s

unfoldable pub same_position : Position → Position → Bool
same_position [] [] = true
same_position [] (j ∷ d) = false
same_position (i ∷ c) [] = false
same_position (i ∷ c) (j ∷ d) = same_item i j && same_position c d

-- ── Moves that add no step ──

abbrev pub silent_by : Option Form → Meanings → Position → List Position
silent_by none l rest = []
silent_by (some end) l rest = rest ∷ []
silent_by (some (static_event a s)) l rest = []
silent_by (some (named_event a n)) l rest = []
silent_by (some (sequence a b)) l rest = (at a l ∷ at b l ∷ rest) ∷ []
silent_by (some (choice a b)) l rest = (at a l ∷ rest) ∷ (at b l ∷ rest) ∷ []
silent_by (some (loop a)) l rest = (at a l ∷ rest) ∷ []
silent_by (some (back a)) l rest = (at a l ∷ rest) ∷ []
silent_by (some (fresh n b)) l rest = []
silent_by (some (sandbox p b)) l rest = []

unfoldable pub silent_next : List Node → Position → List Position
silent_next ns [] = []
silent_next ns (at k l ∷ rest) = silent_by (form_at ns k) l rest
silent_next ns (shut p ∷ rest) = []

-- ── Moves that add a step ──

-- What follows an event, an opening or a closing; nothing follows a step of another kind. A retiring is no step of an outline, so that it leads
-- nowhere here: whoever keeps positions moves none at it (02, L14).
abbrev pub on_event : (ℕ → ℕ → List Position) → Step → List Position
on_event f (event a r) = f a r
on_event f (opening p) = []
on_event f (closing p) = []
on_event f (retiring r) = []

abbrev pub on_opening : (ℕ → List Position) → Step → List Position
on_opening f (event a r) = []
on_opening f (opening p) = f p
on_opening f (closing p) = []
on_opening f (retiring r) = []

abbrev pub on_closing : (ℕ → List Position) → Step → List Position
on_closing f (event a r) = []
on_closing f (opening p) = []
on_closing f (closing p) = f p
on_closing f (retiring r) = []

-- a position, if
abbrev pub if : Bool → Position → List Position
if b c = cond b (c ∷ []) []

-- name n means r
abbrev pub means : Meanings → ℕ → ℕ → Bool
means l n r = eqb (get_or l n 0) r && not (eqb r 0)

abbrev pub stride_by : Option Form → Meanings → Position → Step → List Position
stride_by none l rest step = []
stride_by (some end) l rest step = []
stride_by (some (static_event b s)) l rest step = on_event (λ a r. if (eqb a b && eqb r s) rest) step
stride_by (some (named_event b n)) l rest step = on_event (λ a r. if (eqb a b && means l n r) rest) step
stride_by (some (sequence a b)) l rest step = []
stride_by (some (choice a b)) l rest step = []
stride_by (some (loop a)) l rest step = []
stride_by (some (back a)) l rest step = []
stride_by (some (fresh n b)) l rest step = on_event (λ a r. if (eqb a create && leb statics r) (at b (set l n r) ∷ rest)) step
stride_by (some (sandbox s b)) l rest step = on_opening (λ p. if (eqb p s) (at b l ∷ shut s ∷ rest)) step

-- Where the step creates a resource, that it is in no step so far is asked for beside (`Fresh`): the judge has refused it else.
unfoldable pub stride_next : List Node → Step → Position → List Position
stride_next ns step [] = []
stride_next ns step (at k l ∷ rest) = stride_by (form_at ns k) l rest step
stride_next ns step (shut s ∷ rest) = on_closing (λ p. if (eqb p s) rest) step

abbrev pub Fresh : Step → Past → Type 0
Fresh step past = (r : ℕ) → step ≡ event create r → Occurs r past → ⊥

-- ── All positions ──

-- at most 16 parts
abbrev pub short : Position → Bool
short c = leb (length c) most_parts

unfoldable pub stride_all : List Node → Step → List Position → List Position
stride_all ns step [] = []
stride_all ns step (c ∷ l) = stride_next ns step c ++ stride_all ns step l

abbrev pub is_any : List Position → Bool
is_any [] = false
is_any (c ∷ l) = true

-- what no step leads to from these, all listed, unless a limit is exceeded
unfoldable pub settled_from : List Node → List Position → Option (List Position)
settled_from ns seeds = reached same_position (silent_next ns) most_positions short seeds

-- "At first there is no step and one part, node 0 with no name given."
abbrev pub start_position : Position
start_position = at 0 nothing_meant ∷ []

-- at the load, and after one more step
abbrev pub start_positions : List Node → Option (List Position)
start_positions ns = settled_from ns (start_position ∷ [])

abbrev pub next_positions : List Node → Step → List Position → Option (List Position)
next_positions ns step l = settled_from ns (stride_all ns step l)

-- ── What they are ──

-- the list has exactly what runs with these steps can hold, within the limits
pub record Lists (ns : List Node) (past : Past) (l : List Position) : Type 0 where
  pub sound : (c : Position) → Memᴰ c l → Held ns past (parts_of c)
  pub full : (parts : List Part) → Held ns past parts → (c : Position) × Memᴰ c l × (parts_of c ≡ parts)
  pub well : (c : Position) → Memᴰ c l → PositionOk c
  pub different : Different l
  pub few : length l ≤ most_positions
  pub brief : (c : Position) → Memᴰ c l → length c ≤ most_parts

-- what is told: the list, or that a limit is exceeded
abbrev pub Told : List Node → Past → Option (List Position) → Type 0
Told ns past (some l) = Lists ns past l
Told ns past none = Exceeds ns past
