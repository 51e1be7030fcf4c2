-- Which lists of bytes are a choice, a sequence and an item, and what each denotes (02, L13).
use Rattle.std.specs.Prelude.{ℕ, suc, ◌+◌, ◌*◌, ◌<◌, ◌≡◌, List, [], ◌∷◌, ◌++◌}
use Rattle.sheet_grammar.specs.Tree.{Tree}

-- "Labels are one digit, 0 to 9": the byte of digit d is 48 + d
abbrev pub labels : ℕ
labels = 10

pub data Label : List ℕ → ℕ → Type 0 where
  label : {d : ℕ} → d < labels → Label ((48 + d) ∷ []) d

-- "all other numbers have one or two digits"
pub data Number : List ℕ → ℕ → Type 0 where
  one : {d : ℕ} → d < 10 → Number ((48 + d) ∷ []) d
  two : {c d : ℕ} → c < 10 → d < 10 → Number ((48 + c) ∷ (48 + d) ∷ []) (10 * c + d)

-- An item with no choice in it: "`0` for end, an event as `2(s3)` or `2(n0)`", "`h1` for its back". The bytes: 40 and 41 are the
-- round brackets, 115 is `s`, 110 is `n`, 104 is `h`.
pub data Atom : List ℕ → Tree → Type 0 where
  end : Atom (48 ∷ []) Tree.end
  static_event : {v w : List ℕ} {a r : ℕ} → Number v a → Number w r → Atom (v ++ (40 ∷ 115 ∷ (w ++ (41 ∷ [])))) (Tree.static_event a r)
  named_event : {v w : List ℕ} {a n : ℕ} → Number v a → Number w n → Atom (v ++ (40 ∷ 110 ∷ (w ++ (41 ∷ [])))) (Tree.named_event a n)
  back : {v : List ℕ} {l : ℕ} → Label v l → Atom (104 ∷ v) (Tree.back l)

-- What may stand around a choice: "`m1{choice}` for a loop labelled 1", "`f0{choice}` for fresh, `p0{choice}` for a sandbox, or a choice
-- in round brackets".
pub data Bracket : Type 0 where
  round : Bracket
  loop : ℕ → Bracket
  fresh : ℕ → Bracket
  sandbox : ℕ → Bracket

-- what opens it: 109 is `m`, 102 is `f`, 112 is `p`, 123 the opening curly bracket
pub data Opener : List ℕ → Bracket → Type 0 where
  round : Opener (40 ∷ []) Bracket.round
  loop : {v : List ℕ} {l : ℕ} → Label v l → Opener (109 ∷ (v ++ (123 ∷ []))) (Bracket.loop l)
  fresh : {v : List ℕ} {n : ℕ} → Number v n → Opener (102 ∷ (v ++ (123 ∷ []))) (Bracket.fresh n)
  sandbox : {v : List ℕ} {p : ℕ} → Number v p → Opener (112 ∷ (v ++ (123 ∷ []))) (Bracket.sandbox p)

-- what closes it: 125 is the closing curly bracket
abbrev pub closer : Bracket → ℕ
closer round = 41
closer (loop l) = 125
closer (fresh n) = 125
closer (sandbox p) = 125

-- what it makes of the choice in it
abbrev pub bracketed : Bracket → Tree → Tree
bracketed round t = t
bracketed (loop l) t = Tree.loop l t
bracketed (fresh n) t = Tree.fresh n t
bracketed (sandbox p) t = Tree.sandbox p t

-- The two signs, `+` and `.`.
pub data Sign : Type 0 where
  plus : Sign
  dot : Sign

abbrev pub sign_byte : Sign → ℕ
sign_byte plus = 43
sign_byte dot = 46

abbrev pub joined_by : Sign → Tree → Tree → Tree
joined_by plus t u = Tree.choice t u
joined_by dot t u = Tree.sequence t u

-- A part of a line: what a sign joins, one or more, or an item.
pub data Phrase : Type 0 where
  many : Sign → Phrase
  item : Phrase

-- "A choice is one or more sequences joined by `+`. A sequence is one or more items joined by `.`."
abbrev pub choice_phrase : Phrase
choice_phrase = many plus

abbrev pub sequence_phrase : Phrase
sequence_phrase = many dot

abbrev pub each : Sign → Phrase
each plus = sequence_phrase
each dot = item

-- "round and curly brackets, an event's aside, nest at most 32 deep"
abbrev pub most_nested : ℕ
most_nested = 32

-- `Spells p n w t`: the bytes w are a p that denotes t, and their "round and curly brackets, an event's aside, nest at most" n deep.
-- "Both signs join from the left."
pub data Spells : Phrase → ℕ → List ℕ → Tree → Type 0 where
  alone : {l : Sign} {n : ℕ} {w : List ℕ} {t : Tree} → Spells (each l) n w t → Spells (many l) n w t
  join : {l : Sign} {n : ℕ} {v w : List ℕ} {t u : Tree} → Spells (many l) n v t → Spells (each l) n w u
      → Spells (many l) n (v ++ (sign_byte l ∷ w)) (joined_by l t u)
  atom : {n : ℕ} {w : List ℕ} {t : Tree} → Atom w t → Spells item n w t
  bracket : {n : ℕ} {v w : List ℕ} {b : Bracket} {t : Tree} → Opener v b → Spells choice_phrase n w t
      → Spells item (suc n) (v ++ (w ++ (closer b ∷ []))) (bracketed b t)

-- "One line feed ends the line."
pub record ExpressionLine (n : ℕ) (text : List ℕ) (t : Tree) : Type 0 where
  pub word : List ℕ
  pub is_choice : Spells choice_phrase n word t
  pub ended : text ≡ word ++ (10 ∷ [])
