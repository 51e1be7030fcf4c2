-- One watched resource x, viewed by two numbers, as the tables of a policy that is no pair policy hold it: `w` is the name that means x,
-- 0 to 3, or 4 where no name does; `c` says that x can no longer be created: it is static, or was created.
use Rattle.std.specs.Prelude.{ℕ, ◌≤◌, ◌<◌, ◌≡◌, Bool, true, false, cond, [], ◌∷◌, eqb, ltb}
use Rattle.usage.specs.Limits.{statics}
use Rattle.checker_account.specs.Account.{others, Sight}

-- in the place of a name: no name means x
abbrev pub no_name : ℕ
no_name = 4

-- the resource that name n means
unfoldable pub meant : ℕ → ℕ → ℕ → ℕ
meant x w n = cond (eqb w n) x others

-- the name that means x once n is given to another resource
unfoldable pub forget : ℕ → ℕ → ℕ
forget w n = cond (eqb w n) no_name w

-- a new resource is another than x, or x, which was not created yet
pub data MakesOne (x : ℕ) : (m d : ℕ) → ℕ → Bool → ℕ → Bool → Type 0 where
  other : {m w : ℕ} {c : Bool} → MakesOne x m others w c (forget w m) c
  own : {m w : ℕ} → MakesOne x m x w false m true

-- only a dynamic x is meant by a name or created, and no name means one that is not created
pub record OneOccurs (x w : ℕ) (c : Bool) : Type 0 where
  pub name : w ≤ no_name
  pub unmade : c ≡ false → w ≡ no_name
  pub static : x < statics → (w ≡ no_name) × (c ≡ true)

abbrev pub watching : ℕ → Sight
watching x = record {
  watches = x ∷ [];
  Meaning = ℕ;
  stands = meant x;
  Left = Bool;
  Makes = MakesOne x;
  first_meaning = no_name;
  first_left = ltb x statics;
  Occurring = OneOccurs x;
}
