-- The search of the check, computed: tables that some rounds fill and one more round does not change.
use Prim.Native.Nat.{ℕ, ◌/◌, ◌<◌}
use mathlib.Core.Path.{◌≡◌, refl, sym, ap, subst}
use mathlib.Core.Bool.{Bool, true, false, ◌&&◌, not, cond}
use mathlib.Core.Option.{Option, none, some}
use mathlib.Core.List.{List, [], ◌∷◌}
use mathlib.Core.Logic.{◌⊎◌, inl, inr}
use native.Mathlib.Omega.{arith}
use lib.Dec.{eqb, ltb}
use lib.ListN.{length, replicate}
use borrow.Author.Tests.{eqb-true, ltb-true}
use Rattle.usage.specs.Limits.{statics, node_fields}
use Rattle.usage.specs.Outline.{Form, end, static_event, named_event, sequence, choice, loop, back, fresh, sandbox, form_of}
use Rattle.usage.specs.Tables.{from, edges_of}
use Rattle.usage.specs.Tests.{some_below}
use Rattle.usage.proofs.Logic.{false-true, and_left, and_right, not-true, not-both, by_cases, last-or-lower}
use Rattle.automaton.specs.Move.{targets, image, rows_at}
use Rattle.automaton.specs.Mask.{has, single, union}
use Rattle.automaton.proofs.MaskLaws.{some_at}
use Rattle.checker_account.specs.Account.{watched}
use Rattle.checker_account.specs.declared.Resources.{Resources}
use Rattle.checker_account.specs.Tables.{one_resource, places, places_of, least, entries_of_lem, codes_of, first_code_lem, over, joined_at, forgotten}
use Rattle.checker_account.specs.Tables.{meant_at, kept_in, sequence_ends_lem, fresh_ends_lem, second_arrivals, fresh_arrivals, Rows, rows_in, Resets, never}
use Rattle.checker_account.specs.Tables.{opening_of, ends_by_lem, arrivals, leaves}
use Rattle.checker_account.specs.Filling.{repeat, joined_each, Forms, forms_in, settle_node_lem, settle_round, entered, pass_node_lem, pass_round_lem}
use Rattle.checker_account.specs.Filling.{by_open, ShutFilled, Filled, Asked, one, Untouched, Skips}
use Rattle.checker_account.specs.Filling.{begins, Derived, start, EndsRule, ComesRule, hit_node_lem, hit_any, Searched, SearchedAll, none_found}
use Rattle.checker_account.specs.RowTable.{rows_stored, node_rows, fill_rows}
use Rattle.checker_account.proofs.GrowsLaws.{repeat-keeps}
use Rattle.checker_account.proofs.SettleLaws.{node-derived, round-closed}
use Rattle.checker_account.proofs.PassLaws.{pass-round-derived, pass-round-closed}

unfoldable pub same : List ℕ → List ℕ → Bool
same [] [] = true
same [] (y ∷ ys) = false
same (x ∷ xs) [] = false
same (x ∷ xs) (y ∷ ys) = eqb x y && same xs ys

same_true : (xs ys : List ℕ) → same xs ys ≡ true → xs ≡ ys
unfolding same
same_true [] [] h = refl
same_true [] (y ∷ ys) h = false-true h
same_true (x ∷ xs) [] h = false-true h
same_true (x ∷ xs) (y ∷ ys) h =
    let e : x ≡ y = eqb-true x y (and_left (eqb x y) (same xs ys) h) in
    let f : xs ≡ ys = same_true xs ys (and_right (eqb x y) (same xs ys) h) in
    cc

abbrev pub is : Bool → Bool → Bool
is true b = b
is false b = not b

is_true : (a b : Bool) → is a b ≡ true → a ≡ b
is_true true b h = sym h
is_true false b h = sym (not-true b h)

-- nodes are settled one after the other, those below n
unfoldable pub settle_all : Rows → Resources → Resets → ℕ → Forms → List ℕ → List ℕ → List ℕ
settle_all rows x resets n forms [] t = t
settle_all rows x resets n forms (k ∷ ks) t =
    settle_all rows x resets n forms ks (cond (ltb k n) (settle_node_lem rows x resets k (forms k) t) t)

settled-derived : (rows : Rows) (x : Resources) (resets : Resets) (n : ℕ) (forms : Forms) (t₀ : List ℕ) (ks t : List ℕ)
    → Derived (EndsRule rows x resets n forms) t₀ t → Derived (EndsRule rows x resets n forms) t₀ (settle_all rows x resets n forms ks t)
unfolding settle_all
settled-derived rows x resets n forms t₀ [] t d = d
settled-derived rows x resets n forms t₀ (k ∷ ks) t d =
    settled-derived rows x resets n forms t₀ ks (cond (ltb k n) (settle_node_lem rows x resets k (forms k) t) t) (go (ltb k n) refl)
  where
    go : (b : Bool) → ltb k n ≡ b → Derived (EndsRule rows x resets n forms) t₀ (cond b (settle_node_lem rows x resets k (forms k) t) t)
    go true e = node-derived rows x resets n forms t₀ k t (ltb-true k n e) d
    go false e = d

-- r is the table of rows of policy p, x the watched resources; the nodes j are settled in turn, and k rounds are made for what is come to
module _ (local : Bool) (r : List ℕ) (p : ℕ) (x : Resources) (n : ℕ) (forms : Forms) (j : List ℕ) (k : ℕ) where
  unfoldable pub ends_by : Resets → List ℕ
  ends_by resets = settle_all (rows_in r) x resets n forms j (replicate (places_of x) 0)

  -- where p is not open: under the local meaning, a table of its own
  unfoldable pub shut_by : List ℕ → List ℕ
  shut_by opened = cond local (ends_by (opening_of p opened)) opened

  unfoldable pub comes-by : List ℕ → List ℕ → List ℕ
  comes-by opened shut = repeat (λ i. pass_round_lem local (rows_in r) p x (by_open opened shut) n forms) k (begins x)

  unfoldable pub still : Resets → List ℕ → Bool
  still resets ends = same (settle_round (rows_in r) x resets n forms ends) ends

  unfoldable pub shut-still : List ℕ → List ℕ → Bool
  shut-still opened shut = cond local (still (opening_of p opened) shut) true

  unfoldable pub complete : Bool → List ℕ → List ℕ → List ℕ → Bool
  complete answer opened shut comes =
      shut-still opened shut
      && (same (pass_round_lem local (rows_in r) p x (by_open opened shut) n forms comes) comes
      && is answer (hit_any local (rows_in r) p x comes n forms))

  unfoldable pub from-both : Bool → List ℕ → List ℕ → Bool
  from-both answer opened shut = complete answer opened shut (comes-by opened shut)

  unfoldable pub from-opened : Bool → List ℕ → Bool
  from-opened answer opened = from-both answer opened (shut_by opened)

  -- after these rounds the table where p is open is complete
  unfoldable pub stays : Bool
  stays = still never (ends_by never)

  -- so are the others, and they tell this answer
  unfoldable pub tells : Bool → Bool
  tells answer = from-opened answer (ends_by never)

  -- ── What complete tables are ──

  ends_filled : (resets : Resets) → still resets (ends_by resets) ≡ true
      → Filled (EndsRule (rows_in r) x resets n forms) (replicate (places_of x) 0) (ends_by resets)
  unfolding ends_by still
  ends_filled resets h = record {
    derived = settled-derived (rows_in r) x resets n forms (replicate (places_of x) 0) j (replicate (places_of x) 0) start;
    closed = round-closed (rows_in r) x resets n forms (ends_by resets) (same_true _ (ends_by resets) h);
  }

shut_filled : (local : Bool) (r : List ℕ) (p : ℕ) (x : Resources) (n : ℕ) (forms : Forms) (j : List ℕ) (k : ℕ) (opened : List ℕ)
    → shut-still local r p x n forms j k opened (shut_by local r p x n forms j k opened) ≡ true
    → ShutFilled local (rows_in r) p x n forms opened (shut_by local r p x n forms j k opened)
unfolding shut_by shut-still
shut_filled false r p x n forms j k opened h = refl
shut_filled true r p x n forms j k opened h = ends_filled true r p x n forms j k (opening_of p opened) h

told : (local : Bool) (r : List ℕ) (p : ℕ) (x : Resources) (n : ℕ) (forms : Forms) (j : List ℕ) (k : ℕ) (answer : Bool)
    → stays local r p x n forms j k ≡ true → tells local r p x n forms j k answer ≡ true → Searched local (rows_in r) p x n forms answer
unfolding comes-by complete from-both from-opened stays tells
told local r p x n forms j k answer g h =
    let opened = ends_by local r p x n forms j k never in
    let shut = shut_by local r p x n forms j k opened in
    let t = by_open opened shut in
    let comes = comes-by local r p x n forms j k opened shut in
    let s = shut-still local r p x n forms j k opened shut in
    let c = same (pass_round_lem local (rows_in r) p x t n forms comes) comes in
    let a = is answer (hit_any local (rows_in r) p x comes n forms) in
    let later : (c && a) ≡ true = and_right s (c && a) h in
    record {
      ends = t;
      comes = comes;
      ends_filled = record {
        opened_filled = ends_filled local r p x n forms j k never g;
        shut_filled = shut_filled local r p x n forms j k opened (and_left s (c && a) h);
      };
      comes_filled = record {
        derived =
            repeat-keeps (Derived (ComesRule local (rows_in r) p x t n forms) (begins x))
            (λ i. pass_round_lem local (rows_in r) p x t n forms) k
            (λ i u l d. pass-round-derived local (rows_in r) p x t n forms (begins x) u d) (begins x) start;
        closed = pass-round-closed local (rows_in r) p x t n forms comes (same_true _ comes (and_left c a later));
      };
      told = is_true answer _ (and_right c a later);
    }

-- ── From the flat tables of edges and nodes ──

-- no node is an event on a static resource
abbrev pub is_on_static : Option Form → Bool
is_on_static none = false
is_on_static (some end) = false
is_on_static (some (static_event a s)) = true
is_on_static (some (named_event a n)) = false
is_on_static (some (sequence a b)) = false
is_on_static (some (choice a b)) = false
is_on_static (some (loop a)) = false
is_on_static (some (back a)) = false
is_on_static (some (fresh n b)) = false
is_on_static (some (sandbox s b)) = false

unfoldable pub any_static : List ℕ → Bool
any_static t = some_below (λ k. is_on_static (forms_in t k)) (length t / node_fields)

none-on : (t : List ℕ) → any_static t ≡ false → (x : ℕ) → x < statics → Untouched (length t / node_fields) (forms_in t) x
unfolding any_static
none-on t h x l = record {
  static = l;
  no_event = λ k a b e.
      not-both (any_static t) (some_at (length t / node_fields) (λ k. is_on_static (forms_in t k)) k b (ap is_on_static e)) h;
}

unfoldable pub row_table : List ℕ → List ℕ → ℕ → List ℕ
unfolding rows_stored node_rows fill_rows repeat rows_at image targets single from edges_of form_of
row_table e t p = fill_rows (rows_at (edges_of e)) false p (length t / node_fields) (forms_in t) (replicate places 0)

module _ (local : Bool) (e t : List ℕ) (p : ℕ) where
  unfoldable pub stays_by : List ℕ → Resources → List ℕ → ℕ → Bool
  unfolding stays settle_all ends_by still same repeat joined_each settle_node_lem settle_round some_below
      least entries_of_lem codes_of first_code_lem forgotten meant_at kept_in sequence_ends_lem fresh_ends_lem ends_by_lem has union over joined_at form_of
  stays_by r x j k = stays local r p x (length t / node_fields) (forms_in t) j k

  unfoldable pub stays_at : Resources → List ℕ → ℕ → Bool
  stays_at x j k = stays_by (row_table e t p) x j k

  unfoldable pub tells-by : List ℕ → Resources → List ℕ → ℕ → Bool → Bool
  unfolding tells settle_all ends_by shut_by comes-by still shut-still complete from-both from-opened same repeat joined_each
      settle_node_lem settle_round entered pass_node_lem pass_round_lem hit_node_lem hit_any some_below
      least entries_of_lem codes_of first_code_lem forgotten meant_at kept_in sequence_ends_lem fresh_ends_lem second_arrivals fresh_arrivals
      ends_by_lem arrivals leaves has union over joined_at form_of
  tells-by r x j k answer = tells local r p x (length t / node_fields) (forms_in t) j k answer

  unfoldable pub tells_at : Resources → List ℕ → ℕ → Bool → Bool
  tells_at x j k answer = tells-by (row_table e t p) x j k answer

  pub told_at : (x : Resources) (j : List ℕ) (k : ℕ) (answer : Bool) → stays_at x j k ≡ true → tells_at x j k answer ≡ true
      → Searched local (rows_in (row_table e t p)) p x (length t / node_fields) (forms_in t) answer
  unfolding stays_by stays_at tells-by tells_at
  told_at x j k answer g h = told local (row_table e t p) p x (length t / node_fields) (forms_in t) j k answer g h

  -- Where no node is on a static resource, only the dynamic one need be watched.
  pub none_told : (j : List ℕ) (k : ℕ) → any_static t ≡ false → stays_at (one_resource watched) j k ≡ true
      → tells_at (one_resource watched) j k false ≡ true
      → SearchedAll local (rows_in (row_table e t p)) p false (length t / node_fields) (forms_in t) false
  none_told j k h g d = none_found go
    where
      go : (x : Resources) → Asked false x
          → Skips (length t / node_fields) (forms_in t) x
          ⊎ Searched local (rows_in (row_table e t p)) p x (length t / node_fields) (forms_in t) false
      go x (one {x = y} l) = by_cases (last-or-lower y watched (omega arith))
          (λ f. inr (subst (λ (y : ℕ). Searched local (rows_in (row_table e t p)) p (one_resource y) (length t / node_fields) (forms_in t) false)
          (sym f) (told_at (one_resource watched) j k false g d)))
          (λ m. inl (inl (none-on t h y m)))
