-- The answer of the search, and the lengths of the tables that were filled.
use Prim.Native.Nat.{ℕ}
use mathlib.Core.Path.{◌≡◌, ap, ◌∙◌}
use mathlib.Core.Bool.{Bool, true, false}
use mathlib.Core.List.{List}
use lib.ListN.{length, replicate, length-replicate}
use Rattle.checker_account.specs.declared.Resources.{Resources}
use Rattle.checker_account.specs.Tables.{places_of, place, first_code_lem}
use Rattle.checker_account.specs.Filling.{Filled, begins}
use Rattle.checker_account.proofs.GrowsLaws.{joined-grows, derived-grows}
use Rattle.checker_tables.specs.Search.{ArrivesIf, SearchedIf}

-- the answer alone
pub arrives-searched : (room : Bool) (nodes : List ℕ) (local : Bool) (rows : List ℕ) (p : ℕ) (x : Resources) (u : List ℕ) (answer : Bool)
    → ArrivesIf room nodes local rows p x u answer → SearchedIf room nodes local rows p x answer
arrives-searched true nodes local rows p x u answer h = record {
  ends = h.arrived.ends;
  comes = u;
  ends_filled = h.arrived.ends_filled;
  comes_filled = h.arrived.comes_filled;
  told = h.told;
}
arrives-searched false nodes local rows p x u answer h = h.0

-- ── Filling keeps the length of a table ──

pub filled-length : {Rule : List ℕ → ℕ → ℕ → Type 0} {n : ℕ} {t : List ℕ} → Filled Rule (replicate n 0) t → length t ≡ n
filled-length {Rule} {n} h = (derived-grows Rule (replicate n 0) h.derived).len ∙ length-replicate {A = ℕ} n 0

pub arrived-length : {Rule : List ℕ → ℕ → ℕ → Type 0} (x : Resources) {u : List ℕ} → Filled Rule (begins x) u → length u ≡ places_of x
arrived-length {Rule} x h =
    (derived-grows Rule (begins x) h.derived).len ∙ (joined-grows (replicate (places_of x) 0) (place 0 false (first_code_lem x)) 1).len
    ∙ length-replicate {A = ℕ} (places_of x) 0

pub arrives-length : (room : Bool) (nodes : List ℕ) (local : Bool) (rows : List ℕ) (p : ℕ) (x : Resources) (u : List ℕ) (answer : Bool)
    → ArrivesIf room nodes local rows p x u answer → length u ≡ places_of x
arrives-length true nodes local rows p x u answer h = arrived-length x h.arrived.comes_filled
arrives-length false nodes local rows p x u answer h = ap length h.1 ∙ length-replicate {A = ℕ} (places_of x) 0
