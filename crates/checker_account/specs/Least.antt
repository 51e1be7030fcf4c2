-- Tables of least lengths: what they are to hold, when they are full, and how a trace is read from them.
--
-- An entry belongs to a node, a start (o, w, c, q) and an aim, and is a number of steps. `E n o k w c q t` says that the entry of node k,
-- this start and aim t is n; where it is `cap` or less it counts, and else there is no entry.
use Rattle.std.specs.Prelude.{ℕ, suc, ◌+◌, ◌<◌, ◌≤◌, ◌≡◌, Bool, true, false, ◌||◌, List, eqb}
use Rattle.std.proofs.Math.Option.{Option, none}
use Rattle.usage.specs.declared.Edge.{Edge}
use Rattle.usage.specs.declared.Node.{Node}
use Rattle.usage.specs.Limits.{states, create}
use Rattle.usage.specs.Policy.{Sees, Moves, Offending}
use Rattle.usage.specs.Past.{reopened}
use Rattle.usage.specs.Outline.{Is, end, static_event, named_event, sequence, choice, loop, back, fresh, sandbox}
use Rattle.checker_account.specs.Account.{Sight, Last, by_action, by_opening, Counts, Aim, ended, broken, Goes, Ends, Comes}

abbrev pub Entries : Type 0 → Type 0 → Type 1
Entries W L = ℕ → Bool → ℕ → W → L → ℕ → Aim L → Type 0

-- the starts that occur
pub record Begun (S : Sight) (w : S.Meaning) (c : S.Left) (q : ℕ) : Type 0 where
  pub view : S.Occurring w c
  pub state : q < states

-- a set of starts: whether p is open, the node, what is meant, what is left, the state
abbrev pub Starts : Sight → Type 1
Starts S = Bool → ℕ → S.Meaning → S.Left → ℕ → Type 0

-- The starts at which a table has to be full: they occur, and with each of them the set has every start that a rule there reads.
pub record Followed (local : Bool) (es : List Edge) (ns : List Node) (p : ℕ) (S : Sight) (A : Starts S) : Type 0 where
  pub occurs : {o : Bool} {k : ℕ} {w : S.Meaning} {c : S.Left} {q : ℕ} → A o k w c q → Begun S w c q
  pub first : {k a b : ℕ} {o : Bool} {w : S.Meaning} {c : S.Left} {q : ℕ} → Is ns k (sequence a b) → A o k w c q → A o a w c q
  pub second : {n k a b : ℕ} {o : Bool} {w : S.Meaning} {c c₁ : S.Left} {q q₁ : ℕ} → Is ns k (sequence a b) → A o k w c q
      → Ends local es ns p S n o a w c q c₁ q₁ → A o b w c₁ q₁
  pub left : {k a b : ℕ} {o : Bool} {w : S.Meaning} {c : S.Left} {q : ℕ} → Is ns k (choice a b) → A o k w c q → A o a w c q
  pub right : {k a b : ℕ} {o : Bool} {w : S.Meaning} {c : S.Left} {q : ℕ} → Is ns k (choice a b) → A o k w c q → A o b w c q
  pub body : {k a : ℕ} {o : Bool} {w : S.Meaning} {c : S.Left} {q : ℕ} → Is ns k (loop a) → A o k w c q → A o a w c q
  pub again : {k a : ℕ} {o : Bool} {w : S.Meaning} {c : S.Left} {q : ℕ} → Is ns k (back a) → A o k w c q → A o a w c q
  pub created : {k m b d : ℕ} {o : Bool} {w w₁ : S.Meaning} {c c₁ : S.Left} {q q₁ : ℕ} → Is ns k (fresh m b) → S.Makes m d w c w₁ c₁
      → Moves es p create (Sees S.watches d) q q₁ → A o k w c q → A o b w₁ c₁ q₁
  pub inside : {k s b : ℕ} {o : Bool} {w : S.Meaning} {c : S.Left} {q : ℕ} → Is ns k (sandbox s b) → A o k w c q
      → A (o || eqb s p) b w c (reopened local p s o q)

-- what some run comes to; and all that occurs, at every node
abbrev pub ComeTo : Bool → List Edge → List Node → ℕ → (S : Sight) → Starts S
ComeTo local es ns p S o k w c q = (n : ℕ) × Comes local es ns p S n o k w c q

abbrev pub Anywhere : (S : Sight) → Starts S
Anywhere S o k w c q = Begun S w c q

-- the aims of the tables: an end, or any step that breaks p
pub data Aimed {L : Type 0} : Aim L → Type 0 where
  at_end : {c : L} {q : ℕ} → Aimed (ended c q)
  at_break : Aimed (broken none)

-- One rule of `Goes`, over entries.
pub data Rule (local : Bool) (es : List Edge) (ns : List Node) (p : ℕ) (S : Sight) (E : Entries S.Meaning S.Left) : ℕ → Bool → ℕ
    → S.Meaning → S.Left → ℕ → Aim S.Left → Type 0 where
  ends : {k : ℕ} {w : S.Meaning} {q : ℕ} {o : Bool} {c : S.Left} → Is ns k end → Rule local es ns p S E 0 o k w c q (ended c q)
  fires_static : {k : ℕ} {w : S.Meaning} {q a s q' : ℕ} {o : Bool} {c : S.Left} → Is ns k (static_event a s)
      → Moves es p a (Sees S.watches s) q q' → Rule local es ns p S E 1 o k w c q (ended c q')
  fires_name : {k : ℕ} {w : S.Meaning} {q a m q' : ℕ} {o : Bool} {c : S.Left} → Is ns k (named_event a m)
      → Moves es p a (Sees S.watches (S.stands w m)) q q' → Rule local es ns p S E 1 o k w c q (ended c q')
  sequences : {n₁ n₂ k : ℕ} {w : S.Meaning} {q a b q₁ : ℕ} {o : Bool} {c c₁ : S.Left} {t : Aim S.Left} → Is ns k (sequence a b)
      → E n₁ o a w c q (ended c₁ q₁) → E n₂ o b w c₁ q₁ t → Rule local es ns p S E (n₁ + n₂) o k w c q t
  chooses_left : {n k : ℕ} {w : S.Meaning} {q a b : ℕ} {o : Bool} {c : S.Left} {t : Aim S.Left} → Is ns k (choice a b)
      → E n o a w c q t → Rule local es ns p S E n o k w c q t
  chooses_right : {n k : ℕ} {w : S.Meaning} {q a b : ℕ} {o : Bool} {c : S.Left} {t : Aim S.Left} → Is ns k (choice a b)
      → E n o b w c q t → Rule local es ns p S E n o k w c q t
  enters : {n k : ℕ} {w : S.Meaning} {q a : ℕ} {o : Bool} {c : S.Left} {t : Aim S.Left} → Is ns k (loop a) → E n o a w c q t
      → Rule local es ns p S E n o k w c q t
  repeats : {n k : ℕ} {w : S.Meaning} {q a : ℕ} {o : Bool} {c : S.Left} {t : Aim S.Left} → Is ns k (back a) → E n o a w c q t
      → Rule local es ns p S E n o k w c q t
  makes : {n k : ℕ} {w w₁ : S.Meaning} {q m b d q₁ : ℕ} {o : Bool} {c c₁ : S.Left} {t : Aim S.Left} → Is ns k (fresh m b)
      → S.Makes m d w c w₁ c₁ → Moves es p create (Sees S.watches d) q q₁ → E n o b w₁ c₁ q₁ t
      → Rule local es ns p S E (suc n) o k w c q t
  sandboxes : {n k : ℕ} {w : S.Meaning} {q s b q₂ : ℕ} {o : Bool} {c c₂ : S.Left} → Is ns k (sandbox s b)
      → E n (o || eqb s p) b w c (reopened local p s o q) (ended c₂ q₂) → Rule local es ns p S E (suc (suc n)) o k w c q (ended c₂ q₂)
  breaks_static : {k : ℕ} {w : S.Meaning} {q a s q' : ℕ} {c : S.Left} {u : Option Last} → Is ns k (static_event a s)
      → Moves es p a (Sees S.watches s) q q' → Offending q'
      → Counts u (by_action a) → Rule local es ns p S E 1 true k w c q (broken u)
  breaks_name : {k : ℕ} {w : S.Meaning} {q a m q' : ℕ} {c : S.Left} {u : Option Last} → Is ns k (named_event a m)
      → Moves es p a (Sees S.watches (S.stands w m)) q q' → Offending q'
      → Counts u (by_action a) → Rule local es ns p S E 1 true k w c q (broken u)
  breaks_fresh : {k : ℕ} {w w₁ : S.Meaning} {q m b d q' : ℕ} {c c₁ : S.Left} {u : Option Last} → Is ns k (fresh m b)
      → S.Makes m d w c w₁ c₁ → Moves es p create (Sees S.watches d) q q' → Offending q'
      → Counts u (by_action create) → Rule local es ns p S E 1 true k w c q (broken u)
  breaks_opening : {k : ℕ} {w : S.Meaning} {q b : ℕ} {o : Bool} {c : S.Left} {u : Option Last} → Is ns k (sandbox p b)
      → Offending (reopened local p p o q)
      → Counts u by_opening → Rule local es ns p S E 1 o k w c q (broken u)
  breaks_first : {n k : ℕ} {w : S.Meaning} {q a b : ℕ} {o : Bool} {c : S.Left} {u : Option Last} → Is ns k (sequence a b)
      → E n o a w c q (broken u) → Rule local es ns p S E n o k w c q (broken u)
  breaks_inside : {n k : ℕ} {w : S.Meaning} {q s b : ℕ} {o : Bool} {c : S.Left} {u : Option Last} → Is ns k (sandbox s b)
      → E n (o || eqb s p) b w c (reopened local p s o q) (broken u) → Rule local es ns p S E (suc n) o k w c q (broken u)

-- ── What the tables are to hold ──

-- Each entry is a length: what every round of filling keeps.
pub record Lengths (local : Bool) (es : List Edge) (ns : List Node) (p : ℕ) (S : Sight) (cap : ℕ)
    (E : Entries S.Meaning S.Left) : Type 0 where
  pub sound : {n : ℕ} {o : Bool} {k : ℕ} {w : S.Meaning} {c : S.Left} {q : ℕ} {t : Aim S.Left} → Begun S w c q → Aimed t
      → E n o k w c q t → Goes local es ns p S n o k w c q t
  pub capped : {n : ℕ} {o : Bool} {k : ℕ} {w : S.Meaning} {c : S.Left} {q : ℕ} {t : Aim S.Left} → E n o k w c q t → n ≤ cap
  pub one : {n m : ℕ} {o : Bool} {k : ℕ} {w : S.Meaning} {c : S.Left} {q : ℕ} {t : Aim S.Left} → E n o k w c q t → E m o k w c q t
      → n ≡ m

-- The entries of the starts in A are the least lengths, of those that are `cap` or less.
pub record Least (local : Bool) (es : List Edge) (ns : List Node) (p : ℕ) (S : Sight) (A : Starts S) (cap : ℕ)
    (E : Entries S.Meaning S.Left) : Type 0 where
  pub lengths : Lengths local es ns p S cap E
  pub full : {n : ℕ} {o : Bool} {k : ℕ} {w : S.Meaning} {c : S.Left} {q : ℕ} {t : Aim S.Left} → A o k w c q → Aimed t
      → Goes local es ns p S n o k w c q t → n ≤ cap → (m : ℕ) × (m ≤ n) × E m o k w c q t

-- At the starts in A no rule gives less than what stands there: what filling that changes nothing any more says.
abbrev pub Closed : Bool → List Edge → List Node → ℕ → (S : Sight) → Starts S → ℕ → Entries S.Meaning S.Left → Type 0
Closed local es ns p S A cap E = (n : ℕ) (o : Bool) (k : ℕ) (w : S.Meaning) (c : S.Left) (q : ℕ) (t : Aim S.Left) → A o k w c q
    → Aimed t → Rule local es ns p S E n o k w c q t → n ≤ cap
    → (m : ℕ) × (m ≤ n) × E m o k w c q t

-- ── How a trace is read from them ──

-- the entries below `most`
abbrev pub Less : {W L : Type 0} → ℕ → Entries W L → Entries W L
Less most E n o k w c q t = (n < most) × E n o k w c q t

-- node k can end with no step
pub data Idle (ns : List Node) : ℕ → Type 0 where
  ends : {k : ℕ} → Is ns k end → Idle ns k
  sequences : {k a b : ℕ} → Is ns k (sequence a b) → Idle ns a → Idle ns b → Idle ns k
  chooses_left : {k a b : ℕ} → Is ns k (choice a b) → Idle ns a → Idle ns k
  chooses_right : {k a b : ℕ} → Is ns k (choice a b) → Idle ns b → Idle ns k
  enters : {k a : ℕ} → Is ns k (loop a) → Idle ns a → Idle ns k
  repeats : {k a : ℕ} → Is ns k (back a) → Idle ns a → Idle ns k

-- Node k leads to node j with no step, by one move; where k is to end, nothing but an idle node is left of it after j.
pub data Leads (ns : List Node) (whole : Bool) : ℕ → ℕ → Type 0 where
  first : {k a b : ℕ} → Is ns k (sequence a b) → (whole ≡ true → Idle ns b) → Leads ns whole k a
  second : {k a b : ℕ} → Is ns k (sequence a b) → Idle ns a → Leads ns whole k b
  left : {k a b : ℕ} → Is ns k (choice a b) → Leads ns whole k a
  right : {k a b : ℕ} → Is ns k (choice a b) → Leads ns whole k b
  body : {k a : ℕ} → Is ns k (loop a) → Leads ns whole k a
  again : {k a : ℕ} → Is ns k (back a) → Leads ns whole k a

-- by any number of moves
pub data PassesAll (ns : List Node) (whole : Bool) : ℕ → ℕ → Type 0 where
  here : {k : ℕ} → PassesAll ns whole k k
  on : {k i j : ℕ} → Leads ns whole k i → PassesAll ns whole i j → PassesAll ns whole k j

-- is the node to end?
abbrev pub ending : {L : Type 0} → Aim L → Bool
ending (ended c q) = true
ending (broken u) = false

-- Where to go on from an entry: a node that k leads to with no step, and a rule there whose entries are all of fewer steps.
pub record Onto (local : Bool) (es : List Edge) (ns : List Node) (p : ℕ) (S : Sight) (E : Entries S.Meaning S.Left) (n : ℕ) (o : Bool)
    (k : ℕ) (w : S.Meaning) (c : S.Left) (q : ℕ)
    (t : Aim S.Left) : Type 0 where
  pub node : ℕ
  pub passes : PassesAll ns (ending t) k node
  pub rule : Rule local es ns p S (Less n E) n o node w c q t
