-- The reader, as a definition that computes: a choice, a sequence and an item are read by calls of each other (02, L13).
use Rattle.std.specs.Prelude.{ℕ, zero, suc, ◌+◌, ◌*◌, ◌-◌, Bool, true, false, cond, List, eqb, ltb, length}
use Rattle.std.proofs.Math.Option.{Option, none, some}
use Rattle.std.proofs.Math.ListN.{get_elem?}
use Rattle.sheet_grammar.specs.Tree.{Tree}
use Rattle.sheet_grammar.specs.Outcome.{Out, ok, bad}
use Rattle.sheet_grammar.specs.Grammar.{Bracket, closer, bracketed, Sign, sign_byte, joined_by, Phrase, many, item, choice_phrase, each}

-- ── One place of the text ──

-- the byte b stands there
abbrev pub byte_is : Option ℕ → ℕ → Bool
byte_is none b = false
byte_is (some c) b = eqb c b

-- the digit that stands there
abbrev pub digit_value : Option ℕ → Option ℕ
digit_value none = none
digit_value (some b) = cond (ltb b 48) none (cond (ltb b 58) (some (b - 48)) none)

-- ── Labels and numbers ──

-- a number with the place after it, or the place at which a digit is missing
pub data Num : Type 0 where
  number : ℕ → ℕ → Num
  missing : ℕ → Num

abbrev pub one_digit : Option ℕ → ℕ → Num
one_digit none i = missing i
one_digit (some d) i = number d (suc i)

abbrev pub two_digits : Option ℕ → Option ℕ → ℕ → Num
two_digits none y i = missing i
two_digits (some d) none i = number d (suc i)
two_digits (some c) (some d) i = number (10 * c + d) (suc (suc i))

unfoldable pub label_at : List ℕ → ℕ → Num
label_at s i = one_digit (digit_value (get_elem? s i)) i

unfoldable pub number_at : List ℕ → ℕ → Num
number_at s i = two_digits (digit_value (get_elem? s i)) (digit_value (get_elem? s (suc i))) i

-- ── The beginning of an item ──

-- an item with no choice in it and the place after it; a bracket and its place, after which a choice must follow; or the place at which it
-- goes wrong
pub data Head : Type 0 where
  atom : Tree → ℕ → Head
  opens : Bracket → ℕ → Head
  wrong : ℕ → Head

-- what the first byte of an item says: a round bracket; a loop, a fresh node or a sandbox; a back; a number; nothing that an item begins
-- with
pub data First : Type 0 where
  round : First
  loop : First
  fresh : First
  sandbox : First
  back : First
  number : First
  nothing : First

abbrev pub begins_number : Option ℕ → First
begins_number none = nothing
begins_number (some d) = First.number

unfoldable pub item_first : Option ℕ → First
item_first o =
    cond (byte_is o 40) First.round (cond (byte_is o 109) First.loop
    (cond (byte_is o 102) First.fresh (cond (byte_is o 112) First.sandbox (cond (byte_is o 104) First.back (begins_number (digit_value o))))))

-- the letter of an event: `s` or `n`
abbrev pub event_letter : Option ℕ → Option (ℕ → ℕ → Tree)
event_letter o = cond (byte_is o 115) (some (λ a r. Tree.static_event a r)) (cond (byte_is o 110) (some (λ a n. Tree.named_event a n)) none)

-- a number, and then the opening curly bracket
abbrev pub curly_head : List ℕ → (ℕ → Bracket) → Num → Head
curly_head s k (missing i) = wrong i
curly_head s k (number v e) = cond (byte_is (get_elem? s e) 123) (opens (k v) e) (wrong e)

abbrev pub back_head : Num → Head
back_head (missing i) = wrong i
back_head (number l e) = atom (Tree.back l) e

-- an event's second number, and then the closing round bracket
abbrev pub event_end_lem : List ℕ → (ℕ → Tree) → Num → Head
event_end_lem s k (missing i) = wrong i
event_end_lem s k (number r e) = cond (byte_is (get_elem? s e) 41) (atom (k r) (suc e)) (wrong e)

-- an event from its letter on, which stands at e
abbrev pub event_from_lem : List ℕ → ℕ → ℕ → Option (ℕ → ℕ → Tree) → Head
event_from_lem s a e none = wrong e
event_from_lem s a e (some k) = event_end_lem s (k a) (number_at s (suc e))

-- a number at the beginning of an item: an event's action, or `0` alone
abbrev pub event_head : List ℕ → ℕ → Num → Head
event_head s at (missing i) = wrong i
event_head s at (number a e) =
    cond (byte_is (get_elem? s e) 40) (event_from_lem s a (suc e) (event_letter (get_elem? s (suc e))))
    (cond (eqb e (suc at)) (cond (eqb a 0) (atom Tree.end e) (wrong e)) (wrong e))

abbrev pub head_by : List ℕ → ℕ → First → Head
head_by s at round = opens Bracket.round at
head_by s at loop = curly_head s (λ l. Bracket.loop l) (label_at s (suc at))
head_by s at fresh = curly_head s (λ n. Bracket.fresh n) (number_at s (suc at))
head_by s at sandbox = curly_head s (λ p. Bracket.sandbox p) (number_at s (suc at))
head_by s at back = back_head (label_at s (suc at))
head_by s at number = event_head s at (number_at s at)
head_by s at nothing = wrong at

unfoldable pub head_at : List ℕ → ℕ → Head
head_at s at = head_by s at (item_first (get_elem? s at))

-- ── Choice, sequence and item ──

abbrev pub and_then : Out → (Tree → ℕ → Out) → Out
and_then (ok t e) k = k t e
and_then (bad c i) k = bad c i

-- What is to be read at a place: a part; or what a sign joins to t, which stands before it.
pub data Task : Type 0 where
  read : Phrase → Task
  more : Sign → Tree → Task

-- the bracket b must be closed at e
abbrev pub close_at : List ℕ → Bracket → Tree → ℕ → Out
close_at s b t e = cond (byte_is (get_elem? s e) (closer b)) (ok (bracketed b t) (suc e)) (bad 15 e)

-- an item by its beginning, where brackets may nest n deep; `inner` reads a choice at a place, with so much nesting left
abbrev pub item_by : List ℕ → Head → ℕ → (ℕ → ℕ → Out) → Out
item_by s (atom t e) n inner = ok t e
item_by s (wrong i) n inner = bad 15 i
item_by s (opens b i) zero inner = bad 16 i
item_by s (opens b i) (suc n) inner = and_then (inner (suc i) n) (λ t e. close_at s b t e)

-- where the sign stands at a place, what it joins is read after it, by `next`; else t is all
abbrev pub more_by : Bool → Tree → ℕ → (ℕ → Out) → Out
more_by true t at next = next (suc at)
more_by false t at next = ok t at

-- The three readers: at a place, with brackets nested at most n deep. The first argument bounds how deep the calls go.
unfoldable pub read_by : ℕ → List ℕ → Task → ℕ → ℕ → Out
read_by zero s k at n = bad 0 at
read_by (suc m) s (read (many l)) at n = and_then (read_by m s (read (each l)) at n) (λ t e. read_by m s (more l t) e n)
read_by (suc m) s (read item) at n = item_by s (head_at s at) n (λ i d. read_by m s (read choice_phrase) i d)
read_by (suc m) s (more l t) at n =
    more_by (byte_is (get_elem? s at) (sign_byte l)) t at (λ i. and_then (read_by m s (read (each l)) i n)
    (λ u e. read_by m s (more l (joined_by l t u)) e n))

-- calls enough for a text
abbrev pub calls : List ℕ → ℕ
calls s = 4 * length s + 4

-- ── The line ──

-- "One line feed ends the line."
abbrev pub ended_by : Option ℕ → Tree → ℕ → Out
ended_by none t e = ok t e
ended_by (some b) t e = bad 15 e

abbrev pub feed_at : List ℕ → Tree → ℕ → Out
feed_at s t e = cond (byte_is (get_elem? s e) 10) (ended_by (get_elem? s (suc e)) t (suc e)) (bad 15 e)

unfoldable pub line_of : ℕ → List ℕ → Out
line_of n s = and_then (read_by (calls s) s (read choice_phrase) 0 n) (λ t e. feed_at s t e)
