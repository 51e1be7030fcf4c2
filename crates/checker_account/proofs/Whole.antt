-- Where the whole past counts, what a node ends in does not depend on whether p is open: one table of ends serves both.
use Prim.Native.Nat.{ℕ}
use mathlib.Core.Bool.{Bool, false, ◌||◌}
use mathlib.Core.List.{List}
use lib.Dec.{eqb}
use Rattle.usage.specs.declared.Edge.{Edge}
use Rattle.usage.specs.declared.Node.{Node}
use Rattle.checker_account.specs.Account.{Sight, Goes, Ends}

module _ (es : List Edge) (ns : List Node) (p : ℕ) (S : Sight) where
  pub ends_open : {n : ℕ} {o : Bool} {k : ℕ} {w : S.Meaning} {c : S.Left} {q : ℕ} {c' : S.Left} {q' : ℕ}
      → Ends false es ns p S n o k w c q c' q'
      → (o' : Bool) → Ends false es ns p S n o' k w c q c' q'
  ends_open (Goes.ends i) o' = Goes.ends i
  ends_open (Goes.fires_static i v) o' = Goes.fires_static i v
  ends_open (Goes.fires_name i v) o' = Goes.fires_name i v
  ends_open (Goes.sequences i d f) o' = Goes.sequences i (ends_open d o') (ends_open f o')
  ends_open (Goes.chooses_left i d) o' = Goes.chooses_left i (ends_open d o')
  ends_open (Goes.chooses_right i d) o' = Goes.chooses_right i (ends_open d o')
  ends_open (Goes.enters i d) o' = Goes.enters i (ends_open d o')
  ends_open (Goes.repeats i d) o' = Goes.repeats i (ends_open d o')
  ends_open (Goes.makes i y v d) o' = Goes.makes i y v (ends_open d o')
  ends_open (Goes.sandboxes {s = s} i d) o' = Goes.sandboxes i (ends_open d (o' || eqb s p))
