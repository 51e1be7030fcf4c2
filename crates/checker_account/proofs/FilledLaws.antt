-- Filled tables exist, and so does an answer to the search: rounds are made until one changes nothing, and entries of 16 bits can grow only
-- so far. What the code fills is one of them; here no code is run.
use Prim.Native.Nat.{ℕ, zero, suc, ◌+◌, ◌-◌, ◌*◌, ◌/◌, ◌%◌, ◌<◌, ◌≤◌}
use mathlib.Core.Path.{◌≡◌, refl, sym, subst, ◌∙◌}
use mathlib.Core.Bool.{Bool, true, false, cond}
use mathlib.Core.Option.{Option, none, some}
use mathlib.Core.List.{List, [], ◌∷◌}
use mathlib.Core.Logic.{◌⊎◌, inl, inr}
use native.Mathlib.Omega.{arith}
use lib.Dec.{eqb, lit<}
use lib.ListN.{length, get_or, set, replicate, length-replicate, length-set}
use Rattle.usage.specs.Limits.{create, states}
use Rattle.usage.specs.declared.Edge.{Edge}
use Rattle.usage.specs.Outline.{Form, end, static_event, named_event, sequence, choice, loop, back, fresh, sandbox}
use Rattle.usage.proofs.Logic.{by_cases, last-or-lower}
use Rattle.automaton.specs.Move.{rows_at}
use Rattle.checker_account.specs.Account.{watched, watched_too, others}
use Rattle.checker_account.specs.declared.Arrival.{Arrival}
use Rattle.checker_account.specs.declared.Resources.{Resources}
use Rattle.checker_account.specs.Tables.{made, meaning_in, late_group, waits, in_group_lem, least, codes_of, first_code_lem}
use Rattle.checker_account.specs.Tables.{places_of, places, Rows, row_on, Resets, never, opening_of, place, base, begun, over}
use Rattle.checker_account.specs.Tables.{halves, second_arrivals, fresh_arrivals, arrivals, restarted, is_reset, joined_at, way_of, row_at, rows_in}
use Rattle.checker_account.specs.Holds.{Each}
use Rattle.checker_account.specs.Filling.{total, grown, Forms, Wide, start, Filled, EndsRule, settle_node_lem, settle_round}
use Rattle.checker_account.specs.Filling.{ShutFilled, by_open, entered, arrivals_of, ComesRule, pass, odd, pass_node_lem, pass_round_lem, begins}
use Rattle.checker_account.specs.Filling.{hit_any, Asked, Searched, SearchedAll, found, none_found}
use Rattle.checker_account.specs.Choices.{choice_count, choice_at}
use Rattle.checker_account.specs.RowTable.{EventTables, store_row, rows_stored, side_rows, event_rows_lem, node_rows, fill_rows}
use Rattle.checker_account.proofs.JoinLaws.{zeros-wide, set-wide}
use Rattle.checker_account.proofs.GrowsLaws.{Grows, grown-false, repeat-grows, repeat-keeps, Filling, filling-length, most, nearer}
use Rattle.checker_account.proofs.SettleLaws.{node-grows, round-derived, round-closed, over-lt, cond-lt, joined-wide, WideLent, node_wide}
use Rattle.checker_account.proofs.ComesTable.{each-if}
use Rattle.checker_account.proofs.PassLaws.{pass-round-grows, pass-round-derived, pass-round-closed}
use Rattle.checker_account.proofs.SearchLaws.{begins-wide}
use Rattle.checker_account.proofs.EventLaws.{rows-at-lt}
use Rattle.checker_account.proofs.ChoiceLaws.{choice-asked, asked-numbered}

-- ── Rounds until one changes nothing ──

-- a table that a round leaves as it is
record Settled (Rule : List ℕ → ℕ → ℕ → Type 0) (t₀ : List ℕ) (f : List ℕ → List ℕ) : Type 0 where
  table : List ℕ
  filling : Filling Rule t₀ table
  still : f table ≡ table

module _ (Rule : List ℕ → ℕ → ℕ → Type 0) (t₀ : List ℕ) (size : ℕ) (has-size : length t₀ ≡ size) (f : List ℕ → List ℕ)
    (makes : (t : List ℕ) → Filling Rule t₀ t → Filling Rule t₀ (f t)) (grows : (t : List ℕ) → Grows t (f t)) where
  nearer-now : (t : List ℕ) → Filling Rule t₀ t → grown t (f t) ≡ true → most size - total (f t) < most size - total t
  nearer-now t h e = let k = makes t h in nearer size t (f t) (filling-length size Rule t₀ (f t) has-size k) k.wide e

  settled : (fuel : ℕ) (t : List ℕ) → Filling Rule t₀ t → most size - total t ≤ fuel → Settled Rule t₀ f
  settled zero t h l = go (grown t (f t)) refl
    where
      go : (b : Bool) → grown t (f t) ≡ b → Settled Rule t₀ f
      go true e = let k = nearer-now t h e in absurd (omega arith)
      go false e = record { table = t; filling = h; still = grown-false (grows t) e }
  settled (suc fuel) t h l = go (grown t (f t)) refl (settled fuel (f t) (makes t h))
    where
      go : (b : Bool) → grown t (f t) ≡ b → (most size - total (f t) ≤ fuel → Settled Rule t₀ f) → Settled Rule t₀ f
      go true e next = let k = nearer-now t h e in next (omega arith)
      go false e next = record { table = t; filling = h; still = grown-false (grows t) e }

-- ── The table of ends ──

-- a filled table of 16 bits
record FilledWide (Rule : List ℕ → ℕ → ℕ → Type 0) (t₀ : List ℕ) : Type 0 where
  table : List ℕ
  filled : Filled Rule t₀ table
  wide : Wide table

ends_filled : (rows : Rows) (x : Resources) (resets : Resets) → WideLent resets → (n : ℕ) (forms : Forms)
    → FilledWide (EndsRule rows x resets n forms) (replicate (places_of x) 0)
unfolding settle_round
ends_filled rows x resets lent n forms =
    let Rule = EndsRule rows x resets n forms in
    let t₀ : List ℕ = replicate (places_of x) 0 in
    let s = settled Rule t₀ (places_of x) (length-replicate {A = ℕ} (places_of x) 0) (settle_round rows x resets n forms)
    (λ t h. record {
      derived = round-derived rows x resets n forms t₀ t h.derived;
      wide =
          repeat-keeps Wide (λ i. settle_node_lem rows x resets (n - 1 - i) (forms (n - 1 - i))) n
          (λ i t m w. node_wide rows x resets lent (n - 1 - i) (forms (n - 1 - i)) t w) t h.wide;
    })
    (repeat-grows (λ i. settle_node_lem rows x resets (n - 1 - i) (forms (n - 1 - i)))
    (λ i. node-grows rows x resets (n - 1 - i) (forms (n - 1 - i))) n)
    (most (places_of x) - total t₀) t₀ record { derived = start; wide = zeros-wide (places_of x) } (omega arith) in
    record {
      table = s.table;
      filled = record { derived = s.filling.derived; closed = round-closed rows x resets n forms s.table s.still };
      wide = s.filling.wide;
    }

-- ── The table of what is come to ──

begins-length : (x : Resources) → length (begins x) ≡ places_of x
unfolding joined_at
begins-length x =
    length-set (replicate (places_of x) 0) (place 0 false (first_code_lem x)) _ ∙ length-replicate {A = ℕ} (places_of x) 0

abbrev WideRows : Rows → Type 0
WideRows rows = (k : ℕ) (first second : Bool) (q : ℕ) → rows k first second q < 65536

restarted-lt : (b : Bool) (v : ℕ) → v < 65536 → restarted b v < 65536
restarted-lt true v h = go (eqb (v % 256) 0)
  where
    go : (b : Bool) → cond b 0 1 < 65536
    go true = lit< tt
    go false = lit< tt
restarted-lt false v h = h

module _ (local : Bool) (rows : Rows) (p : ℕ) (x : Resources) (small : WideRows rows) where
  abbrev Narrow : Arrival → Type 0
  Narrow g = g.states < 65536

  on-wide : (k r v : ℕ) → over (row_on rows x k r) v < 65536
  on-wide k r v = over-lt (row_on rows x k r) v (small k (eqb r x.first) (eqb r x.second))

  seconds-wide : (t : List ℕ) → Wide t → (a b : ℕ) (o : Bool) (m v : ℕ) → Each Narrow (second_arrivals t a b o m v)
  unfolding second_arrivals
  seconds-wide t w a b o m v =
      let e = over-lt (λ q. get_or t (base a m + q) 0) v (λ q. w _) in
      let f = over-lt (λ q. get_or t (base a (in_group_lem late_group m) + q) 0) v (λ q. w _) in (
        omega arith,
        (
          omega arith,
          each-if Narrow (waits m) (halves b o (in_group_lem 0 m) (begun t a (in_group_lem late_group m) v) [])
              (λ _. (omega arith, (omega arith, tt))),
        ),
      )

  freshes-wide : (k n b : ℕ) (o : Bool) (m v : ℕ) → Each Narrow (fresh_arrivals rows x k n b o m v)
  unfolding fresh_arrivals
  freshes-wide k n b o m v = (
    on-wide k others v,
    (cond-lt (made (meaning_in m)) _ (on-wide k watched v), each-if Narrow (waits m) (_ ∷ []) (λ _. (on-wide k watched_too v, tt))),
  )

  arrivals-wide : (t : List ℕ) → Wide t → (k : ℕ) (o : Bool) (m v : ℕ) → v < 65536 → (f : Option Form)
      → Each Narrow (arrivals_of local rows p x t k o m v f)
  unfolding arrivals
  arrivals-wide t w k o m v h none = tt
  arrivals-wide t w k o m v h (some end) = tt
  arrivals-wide t w k o m v h (some (static_event a s)) = tt
  arrivals-wide t w k o m v h (some (named_event a n)) = tt
  arrivals-wide t w k o m v h (some (sequence a b)) = (h, seconds-wide t w a b o m v)
  arrivals-wide t w k o m v h (some (choice a b)) = (h, (h, tt))
  arrivals-wide t w k o m v h (some (loop a)) = (h, tt)
  arrivals-wide t w k o m v h (some (back a)) = (h, tt)
  arrivals-wide t w k o m v h (some (fresh n b)) = freshes-wide k n b o m v
  arrivals-wide t w k o m v h (some (sandbox s b)) = (restarted-lt (is_reset local p s o) v h, tt)

  entered-wide : (gs : List Arrival) (u : List ℕ) → Each Narrow gs → Wide u → Wide (entered gs u)
  unfolding entered
  entered-wide [] u h w = w
  entered-wide (g ∷ gs) u (h, hs) w =
      entered-wide gs (joined_at u (place g.to g.opened g.meaning) g.states) hs
      (joined-wide u (place g.to g.opened g.meaning) g.states h w)

  round-wide : (t : Bool → List ℕ) → ((o : Bool) → Wide (t o)) → (n : ℕ) (forms : Forms) (u : List ℕ) → Wide u
      → Wide (pass_round_lem local rows p x t n forms u)
  unfolding pass_round_lem pass_node_lem
  round-wide t w n forms u h =
      repeat-keeps Wide (λ k. pass_node_lem local rows p x t k (forms k)) n
      (λ k u i h.
      repeat-keeps Wide (λ i. pass local rows p x (t (odd i)) k (forms k) (odd i) (least x + i / 2)) (2 * (codes_of x - least x))
      (λ i u j h.
      entered-wide (arrivals_of local rows p x (t (odd i)) k (odd i) (least x + i / 2) (get_or u (place k (odd i) (least x + i / 2)) 0) (forms k)) u
      (arrivals-wide (t (odd i)) (w (odd i)) k (odd i) (least x + i / 2) _ (h _) (forms k)) h) u h) u h

  comes_filled : (t : Bool → List ℕ) → ((o : Bool) → Wide (t o)) → (n : ℕ) (forms : Forms)
      → FilledWide (ComesRule local rows p x t n forms) (begins x)
  comes_filled t w n forms =
      let Rule = ComesRule local rows p x t n forms in
      let s = settled Rule (begins x) (places_of x) (begins-length x) (pass_round_lem local rows p x t n forms)
      (λ u h. record {
        derived = pass-round-derived local rows p x t n forms (begins x) u h.derived;
        wide = round-wide t w n forms u h.wide;
      })
      (pass-round-grows local rows p x t n forms)
      (most (places_of x) - total (begins x)) (begins x) record { derived = start; wide = begins-wide x } (omega arith) in
      record {
        table = s.table;
        filled = record {
          derived = s.filling.derived;
          closed = pass-round-closed local rows p x t n forms s.table s.still;
        };
        wide = s.filling.wide;
      }

  -- ── The answer for one choice of watched resources ──

  module _ (n : ℕ) (forms : Forms) where
    shut_filled : (b : Bool) (opened : List ℕ) → Wide opened → (u : List ℕ) × ShutFilled b rows p x n forms opened u × Wide u
    shut_filled false opened w = (opened, refl, w)
    shut_filled true opened w = let s = ends_filled rows x (opening_of p opened) w n forms in (s.table, s.filled, s.wide)

    both-wide : (opened shut : List ℕ) → Wide opened → Wide shut → (o : Bool) → Wide (by_open opened shut o)
    both-wide opened shut a b true = a
    both-wide opened shut a b false = b

    one-searched : (answer : Bool) × Searched local rows p x n forms answer
    one-searched =
        let opened = ends_filled rows x never tt n forms in
        let (shut, shut-is, shut-wide) = shut_filled local opened.table opened.wide in
        let t = by_open opened.table shut in
        let comes = comes_filled t (both-wide opened.table shut opened.wide shut-wide) n forms in (
          hit_any local rows p x comes.table n forms,
          record {
            ends = t;
            comes = comes.table;
            ends_filled = record { opened_filled = opened.filled; shut_filled = shut-is };
            comes_filled = comes.filled;
            told = refl;
          },
        )

-- ── And for all of them ──

module _ (local : Bool) (rows : Rows) (p : ℕ) (small : WideRows rows) (n : ℕ) (forms : Forms) (pair : Bool) where
  Found : Type 0
  Found = (x : Resources) × Asked pair x × Searched local rows p x n forms true

  -- none of those that a number below m numbers
  abbrev NoneOf : (ℕ → Resources) → ℕ → Type 0
  NoneOf at m = (i : ℕ) → i < m → Searched local rows p (at i) n forms false

  below : (at : ℕ → Resources) (m : ℕ) → ((i : ℕ) → i < m → Asked pair (at i)) → Found ⊎ NoneOf at m
  unfolding Found
  below at zero a = inr (λ x h. absurd (omega arith))
  below at (suc m) a = go (one-searched local rows p (at m) small n forms) (below at m (λ i l. a i (omega arith)))
    where
      go : (answer : Bool) × Searched local rows p (at m) n forms answer → Found ⊎ NoneOf at m → Found ⊎ NoneOf at (suc m)
      go (true, s) r = inl (at m, a m (omega arith), s)
      go (false, s) (inl r) = inl r
      go (false, s) (inr r) = inr (λ i h. by_cases (last-or-lower i m h)
          (λ e. subst (λ (y : ℕ). Searched local rows p (at y) n forms false) (sym e) s) (r i))

pub searched-exists : (local : Bool) (rows : Rows) (p : ℕ) → WideRows rows → (pair : Bool) (n : ℕ) (forms : Forms)
    → (answer : Bool) × SearchedAll local rows p pair n forms answer
unfolding Found
searched-exists local rows p small pair n forms =
    go (below local rows p small n forms pair (choice_at pair) (choice_count pair) (choice-asked pair))
  where
    none : NoneOf local rows p small n forms pair (choice_at pair) (choice_count pair) → (x : Resources) → Asked pair x
        → Searched local rows p x n forms false
    none r x a =
        let i = asked-numbered a in
        subst (λ (x : Resources). Searched local rows p x n forms false) i.same (r i.number i.small)

    go : Found local rows p small n forms pair ⊎ NoneOf local rows p small n forms pair (choice_at pair) (choice_count pair)
        → (answer : Bool) × SearchedAll local rows p pair n forms answer
    go (inl (x, a, s)) = (true, found a s)
    go (inr r) = (false, none_found (λ x a. inr (none r x a)))

-- ── The table of rows ──

-- its entries are numbers of 16 bits where those of the events' tables are
module _ (tables : EventTables) (small : (a r : ℕ) (x y : Bool) (k : ℕ) → get_or (tables a r x y) k 0 < 256) (pair : Bool) (p : ℕ) where
  side-wide : (second : Bool) (k a s : ℕ) (r : List ℕ) → Wide r → Wide (side_rows tables second p k a s r)
  unfolding rows_stored
  side-wide second k a s r w =
      repeat-keeps Wide (store_row k (way_of false second) p (tables a s true second) (tables a s false second)) states
      (λ q u l h.
      let i = small a s false second (p * states + q) in
      let j = small a s true second (p * states + q) in
      let other = get_or (tables a s false second) (p * states + q) 0 in
      let own = get_or (tables a s true second) (p * states + q) 0 in
      let way = way_of false second in
      set-wide (set u (row_at k way + q) other) (row_at k (suc way) + q) own (omega arith)
      (set-wide u (row_at k way + q) other (omega arith) h)) r w

  event-wide : (k a s : ℕ) (r : List ℕ) → Wide r → Wide (event_rows_lem tables pair p k a s r)
  event-wide k a s r w = go pair
    where
      go : (b : Bool) → Wide (event_rows_lem tables b p k a s r)
      go true = side-wide true k a s (side_rows tables false p k a s r) (side-wide false k a s r w)
      go false = side-wide false k a s r w

  node-rows-wide : (k : ℕ) (f : Option Form) (r : List ℕ) → Wide r → Wide (node_rows tables pair p k f r)
  unfolding node_rows
  node-rows-wide k none r w = w
  node-rows-wide k (some end) r w = w
  node-rows-wide k (some (static_event a s)) r w = event-wide k a s r w
  node-rows-wide k (some (named_event a n)) r w = event-wide k a others r w
  node-rows-wide k (some (sequence a b)) r w = w
  node-rows-wide k (some (choice a b)) r w = w
  node-rows-wide k (some (loop a)) r w = w
  node-rows-wide k (some (back a)) r w = w
  node-rows-wide k (some (fresh n b)) r w = event-wide k create others r w
  node-rows-wide k (some (sandbox s b)) r w = w

  fill-wide : (n : ℕ) (forms : Forms) (r : List ℕ) → Wide r → Wide (fill_rows tables pair p n forms r)
  unfolding fill_rows
  fill-wide n forms r w = repeat-keeps Wide (λ k. node_rows tables pair p k (forms k)) n (λ k u l h. node-rows-wide k (forms k) u h) r w

pub rows-wide : (es : List Edge) (pair : Bool) (p n : ℕ) (forms : Forms)
    → WideRows (rows_in (fill_rows (rows_at es) pair p n forms (replicate places 0)))
rows-wide es pair p n forms k first second q =
    fill-wide (rows_at es) (rows-at-lt es) pair p n forms (replicate places 0) (zeros-wide places) (row_at k (way_of first second) + q)
