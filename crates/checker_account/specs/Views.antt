-- Any number of watched resources, viewed by stand-ins: `w` has for each name, 0 to 3, the stand-in of its resource, and 18 for a name that
-- means nothing; `c` are those that can still be created: the watched dynamic ones, as long as they are not.
use Rattle.std.specs.Prelude.{ℕ, ◌<◌, ◌≤◌, ◌≡◌, ◌⊎◌, Bool, not, cond, eqb, length, get_or, set, replicate}
use mathlib.Core.List.{List, [], ◌∷◌, Memᴰ}
use Rattle.usage.specs.declared.Edge.{Edge}
use Rattle.usage.specs.Policy.{Instance}
use Rattle.usage.specs.Tests.{some_of}
use Rattle.checker_account.specs.Account.{watched, watched_too, others, Sight}

-- The choices of stand-ins for the watched resources: 17 of one; of two 17 times 17, where 16 twice is one dynamic resource taken for both,
-- and one for two different dynamic resources.
pub data Watched : List ℕ → Type 0 where
  one : {x : ℕ} → x ≤ watched → Watched (x ∷ [])
  two : {x y : ℕ} → x ≤ watched → y ≤ watched → Watched (x ∷ y ∷ [])
  apart : Watched (watched ∷ watched_too ∷ [])

-- those that p asks for: one, or two where it is a pair policy
pub record Chosen (es : List Edge) (p : ℕ) (us : List ℕ) : Type 0 where
  pub watches : Watched us
  pub fits : Instance es p us

-- ── What the names mean, and what can still be created ──

-- names 0 to 3
abbrev pub name_count : ℕ
name_count = 4

abbrev pub no_meaning : List ℕ
no_meaning = replicate name_count others

-- the stand-in of what name n means, and all of them once n means d
abbrev pub stand_in : List ℕ → ℕ → ℕ
stand_in w n = get_or w n others

abbrev pub means_now : List ℕ → ℕ → ℕ → List ℕ
means_now w n d = set w n d

-- those that pass the test
unfoldable pub keep_if : (ℕ → Bool) → List ℕ → List ℕ
keep_if test [] = []
keep_if test (d ∷ ds) = cond (test d) (d ∷ keep_if test ds) (keep_if test ds)

-- the watched dynamic ones, none created yet; and what is left once d is created
abbrev pub dynamics : List ℕ → List ℕ
dynamics us = keep_if (λ d. some_of (λ u. eqb u d) us) (watched ∷ watched_too ∷ [])

abbrev pub left_after : ℕ → List ℕ → List ℕ
left_after d c = keep_if (λ e. not (eqb e d)) c

-- A new resource is another one than those watched, or one of them that is not created yet.
pub data New (c : List ℕ) : ℕ → Type 0 where
  another : New c others
  awaited : {d : ℕ} → Memᴰ d c → New c d

-- What can still be created: a part of 16 and 17, in this order.
pub data Ordered : List ℕ → Type 0 where
  neither : Ordered []
  just_first : Ordered (watched ∷ [])
  just_second : Ordered (watched_too ∷ [])
  both : Ordered (watched ∷ watched_too ∷ [])

-- The views that occur: a name means another resource or a watched one that is created, which no other name means; and only the watched
-- dynamic ones are left to be created.
pub record View (us w c : List ℕ) : Type 0 where
  pub whole : length w ≡ name_count
  pub meaning : (m : ℕ) → m < name_count → (stand_in w m ≡ others) ⊎ (Memᴰ (stand_in w m) (dynamics us) × (Memᴰ (stand_in w m) c → ⊥))
  pub once : (m k : ℕ) → m < name_count → k < name_count → stand_in w m ≡ stand_in w k → (m ≡ k) ⊎ (stand_in w m ≡ others)
  pub left : (d : ℕ) → Memᴰ d c → Memᴰ d (dynamics us)
  pub ordered : Ordered c

pub data MakesAny : (m d : ℕ) → List ℕ → List ℕ → List ℕ → List ℕ → Type 0 where
  given : {m d : ℕ} {w c : List ℕ} → New c d → MakesAny m d w c (means_now w m d) (left_after d c)

abbrev pub views : List ℕ → Sight
views us = record {
  watches = us;
  Meaning = List ℕ;
  stands = stand_in;
  Left = List ℕ;
  Makes = MakesAny;
  first_meaning = no_meaning;
  first_left = dynamics us;
  Occurring = View us;
}
