-- What the crate's own functions do to a table on the way.
use Rattle.std.specs.Prelude.{ℕ, ◌/◌, ◌<◌, ◌≤◌, ◌≡◌, Bool, true, false, List, length, get_or}
use Rattle.std.proofs.Math.Option.{Option, some}
use Rattle.usage.specs.Limits.{node_fields}
use Rattle.usage.specs.Outline.{Form, sequence}
use Rattle.checker_account.specs.Filling.{total}
use Rattle.checker_lengths.specs.declared.Entry.{Entry}
use Rattle.checker_lengths.specs.declared.WatchOne.{WatchOne}
use Rattle.checker_lengths.specs.Entries.{all_lengths, linear, in_table, held}
use Rattle.checker_lengths.specs.Offers.{offer_from}
use Rattle.checker_lengths.specs.Filling.{form_here, Reach, Settled, RuleSettled}

-- filling goes on from t to t' by rules of node k alone, which has the form f
abbrev pub Lowers : WatchOne → List ℕ → ℕ → Option Form → List ℕ → List ℕ → Type 0
Lowers w rows k f t t' =
    (nodes : List ℕ) → k < length nodes / node_fields → form_here nodes k ≡ f → Reach w rows nodes t → Reach w rows nodes t'

-- the entries of other nodes than k are the same; and none is greater
pub record Fell (k : ℕ) (t u : List ℕ) : Type 0 where
  pub beside : (e : Entry) → in_table e ≡ true → (e.node ≡ k → ⊥) → get_or u (linear e) 0 ≡ get_or t (linear e) 0
  pub down : (i : ℕ) → get_or u i 0 ≤ get_or t i 0

-- the rules of a node of the form f do not read the entries of node k
abbrev pub Apart : WatchOne → List ℕ → ℕ → Option Form → Type 0
Apart w rows k f = (t u : List ℕ) → Fell k t u → (e : Entry) (c : ℕ)
    → offer_from w rows (held u all_lengths) e c f ≡ offer_from w rows (held t all_lengths) e c f

-- Some entries of node k, which has the form f, have fallen, which gives t'; r tells whether any has. Where none has, C holds of the
-- table; and where the node does not read itself, C holds of what it became.
pub record Pass (w : WatchOne) (rows : List ℕ) (k : ℕ) (f : Option Form) (C : List ℕ → Type 0) (t t' : List ℕ) (r : Bool) : Type 0 where
  pub same_size : length t' ≡ length t
  pub changes : Lowers w rows k f t t'
  pub kept : r ≡ false → t' ≡ t
  pub settled : r ≡ false → C t
  pub lower : r ≡ true → total t' < total t
  pub fell : Fell k t t'
  pub done : Apart w rows k f → C t'

-- The entry e is set to v, if that is less, and r tells whether it was: a pass by every rule that gives v.
abbrev pub Puts : Entry → ℕ → List ℕ → List ℕ → Bool → Type 0
Puts e v t t' r = (w : WatchOne) (rows : List ℕ) (f : Option Form) (c : ℕ) → v ≡ offer_from w rows (held t all_lengths) e c f
    → Pass w rows e.node f (λ u. Settled w rows f u e c) t t' r

-- rule c of a sequence is settled at one start
abbrev pub SettlesSequence : Entry → ℕ → ℕ → ℕ → List ℕ → List ℕ → Bool → Type 0
SettlesSequence s a b c t t' r = (w : WatchOne) (rows : List ℕ)
    → Pass w rows s.node (some (sequence a b)) (λ u. RuleSettled w rows (some (sequence a b)) u s c) t t' r
