-- The table of rows holds, at each node with an event, the rows of that event.
use Prim.Native.Nat.{ℕ, zero, suc, ◌+◌, ◌*◌, ◌<◌, ◌≤◌}
use mathlib.Core.Path.{◌≡◌, refl, sym, ap, ◌∙◌, subst}
use mathlib.Core.Bool.{Bool, true, false}
use mathlib.Core.Option.{Option, none, some}
use mathlib.Core.List.{List}
use mathlib.Core.Logic.{◌⊎◌, inl, inr}
use native.Mathlib.Nat.{not-suc-le-zero}
use native.Mathlib.Omega.{arith}
use lib.ListN.{length, get_or, set, length-set}
use lib.Seq.{get_or-set_same, get_or-set_other}
use Rattle.usage.specs.declared.Node.{Node}
use Rattle.usage.specs.Limits.{create, states, most_nodes}
use Rattle.usage.specs.Outline.{Form, end, static_event, named_event, sequence, choice, loop, back, fresh, sandbox, Is}
use Rattle.usage.proofs.Logic.{false-true, by_cases, last-or-lower}
use Rattle.checker_account.specs.Account.{others}
use Rattle.checker_account.specs.Tables.{way_of, row_at, rows_in, places}
use Rattle.checker_account.specs.Filling.{repeat, Forms, FormsOf}
use Rattle.checker_account.specs.RowTable.{EventTables, image_in, store_row, rows_stored, side_rows, event_rows_lem, node_rows, fill_rows}
use Rattle.checker_account.proofs.RowLaws.{RowsFrom}

-- ── One node ──

-- another row than those that are stored for node k, from this way on
abbrev Beside : ℕ → ℕ → ℕ → ℕ → Type 0
Beside k way n w = n ≡ k → (w ≡ way → ⊥) × (w ≡ suc way → ⊥)

-- what r' holds, once the first j rows of node k were stored in r
pub record Storing (k way p : ℕ) (own other : List ℕ) (j : ℕ) (r r' : List ℕ) : Type 0 where
  pub len : length r' ≡ length r
  pub others : (q : ℕ) → q < j → get_or r' (row_at k way + q) 0 ≡ get_or other (p * states + q) 0
  pub owns : (q : ℕ) → q < j → get_or r' (row_at k (suc way) + q) 0 ≡ get_or own (p * states + q) 0
  pub elsewhere : (n w q : ℕ) → n < most_nodes → q < states → Beside k way n w → get_or r' (row_at n w + q) 0 ≡ get_or r (row_at n w + q) 0

module _ (k way p : ℕ) (own other : List ℕ) (r : List ℕ) (in_table : k < most_nodes) (few : way < 3) (room : length r ≡ places) where
  module _ (j : ℕ) (small : j < states) (t : List ℕ) (h : Storing k way p own other j r t) where
    u : List ℕ
    u = store_row k way p own other j t

    -- a place that is neither of the two stays as it was
    apart : (i : ℕ) → (i ≡ row_at k way + j → ⊥) → (i ≡ row_at k (suc way) + j → ⊥) → get_or u i 0 ≡ get_or t i 0
    unfolding u
    apart i d e =
        get_or-set_other (set t (row_at k way + j) (get_or other (p * states + j) 0)) (row_at k (suc way) + j) i (get_or own (p * states + j) 0) 0 e
        ∙ get_or-set_other t (row_at k way + j) i (get_or other (p * states + j) 0) 0 d

    here-other : get_or u (row_at k way + j) 0 ≡ get_or other (p * states + j) 0
    unfolding u
    here-other =
        get_or-set_other (set t (row_at k way + j) (get_or other (p * states + j) 0)) (row_at k (suc way) + j) (row_at k way + j)
        (get_or own (p * states + j) 0) 0 (λ e. omega arith)
        ∙ get_or-set_same t (row_at k way + j) (get_or other (p * states + j) 0) 0 (let l = h.len in omega arith)

    here-own : get_or u (row_at k (suc way) + j) 0 ≡ get_or own (p * states + j) 0
    unfolding u
    here-own =
        get_or-set_same (set t (row_at k way + j) (get_or other (p * states + j) 0)) (row_at k (suc way) + j) (get_or own (p * states + j) 0) 0
        (let l = h.len in let m = length-set t (row_at k way + j) (get_or other (p * states + j) 0) in omega arith)

    -- another row lies elsewhere
    away : (n w q : ℕ) → n < most_nodes → q < states → Beside k way n w → get_or u (row_at n w + q) 0 ≡ get_or t (row_at n w + q) 0
    away n w q l b d = apart (row_at n w + q) (λ e. (d (omega arith)).0 (omega arith)) (λ e. (d (omega arith)).1 (omega arith))

    pub storing-more : Storing k way p own other (suc j) r (store_row k way p own other j t)
    unfolding u
    storing-more = record {
      len = length-set (set t (row_at k way + j) (get_or other (p * states + j) 0)) (row_at k (suc way) + j) (get_or own (p * states + j) 0)
          ∙ length-set t (row_at k way + j) (get_or other (p * states + j) 0) ∙ h.len;
      others = λ q l. by_cases (last-or-lower q j l)
          (λ e. ap (λ (i : ℕ). get_or u (row_at k way + i) 0) e ∙ here-other ∙ ap (λ (i : ℕ). get_or other (p * states + i) 0) (sym e))
          (λ m. apart (row_at k way + q) (λ e. omega arith) (λ e. omega arith) ∙ h.others q m);
      owns = λ q l. by_cases (last-or-lower q j l)
          (λ e. ap (λ (i : ℕ). get_or u (row_at k (suc way) + i) 0) e ∙ here-own ∙ ap (λ (i : ℕ). get_or own (p * states + i) 0) (sym e))
          (λ m. apart (row_at k (suc way) + q) (λ e. omega arith) (λ e. omega arith) ∙ h.owns q m);
      elsewhere = λ n w q l b d. away n w q l b d ∙ h.elsewhere n w q l b d;
    }

  storing : (j : ℕ) → j ≤ states → Storing k way p own other j r (repeat (store_row k way p own other) j r)
  unfolding repeat
  storing zero l =
      record {
        len = refl;
        others = λ q h. absurd (not-suc-le-zero h);
        owns = λ q h. absurd (not-suc-le-zero h);
        elsewhere = λ n w q l b d. refl;
      }
  storing (suc j) l = storing-more j (omega arith) (repeat (store_row k way p own other) j r) (storing j (omega arith))

  pub stored_is : Storing k way p own other states r (rows_stored k way p own other r)
  unfolding rows_stored
  stored_is = storing states (omega arith)

-- ── All nodes ──

-- node k's rows are those of this event: on the first resource or not, and, of a pair policy, on the second or not
abbrev HasEvent : EventTables → Bool → ℕ → ℕ → ℕ → ℕ → List ℕ → Type 0
HasEvent tables pair p k a s r = (first second : Bool) → (second ≡ true → pair ≡ true) → (q : ℕ) → q < states
    → rows_in r k first second q ≡ image_in tables p a s first second q

abbrev pub HasRows : EventTables → Bool → ℕ → ℕ → Option Form → List ℕ → Type 0
HasRows tables pair p k none r = Unit {0}
HasRows tables pair p k (some end) r = Unit {0}
HasRows tables pair p k (some (static_event a s)) r = HasEvent tables pair p k a s r
HasRows tables pair p k (some (named_event a n)) r = HasEvent tables pair p k a others r
HasRows tables pair p k (some (sequence a b)) r = Unit {0}
HasRows tables pair p k (some (choice a b)) r = Unit {0}
HasRows tables pair p k (some (loop a)) r = Unit {0}
HasRows tables pair p k (some (back a)) r = Unit {0}
HasRows tables pair p k (some (fresh n b)) r = HasEvent tables pair p k create others r
HasRows tables pair p k (some (sandbox s b)) r = Unit {0}

-- r' differs from r at most in the rows of node k
pub record Elsewhere (k : ℕ) (r r' : List ℕ) : Type 0 where
  pub len : length r' ≡ length r
  pub same : (j w q : ℕ) → (j ≡ k → ⊥) → j < most_nodes → q < states → get_or r' (row_at j w + q) 0 ≡ get_or r (row_at j w + q) 0

elsewhere-self : (k : ℕ) (r : List ℕ) → Elsewhere k r r
elsewhere-self k r = record { len = refl; same = λ j w q d l b. refl }

elsewhere-trans : {k : ℕ} {r s t : List ℕ} → Elsewhere k r s → Elsewhere k s t → Elsewhere k r t
elsewhere-trans f g = record { len = g.len ∙ f.len; same = λ j w q d l b. g.same j w q d l b ∙ f.same j w q d l b }

module _ (tables : EventTables) (p k a s : ℕ) (small : k < most_nodes) where
  side-few : (second : Bool) → way_of false second < 3
  side-few true = omega arith
  side-few false = omega arith

  side-is : (second : Bool) (r : List ℕ) → length r ≡ places
      → Storing k (way_of false second) p (tables a s true second) (tables a s false second) states r (side_rows tables second p k a s r)
  side-is second r room =
      stored_is k (way_of false second) p (tables a s true second) (tables a s false second) r small (side-few second) room

  side-elsewhere : (second : Bool) (r : List ℕ) → length r ≡ places → Elsewhere k r (side_rows tables second p k a s r)
  side-elsewhere second r room =
      let h = side-is second r room in
      record { len = h.len; same = λ j w q d l b. h.elsewhere j w q l b (λ e. absurd (d e)) }

  -- the rows where the second resource is that of the event or not
  side-has : (first second : Bool) (r : List ℕ) → length r ≡ places → (q : ℕ) → q < states
      → rows_in (side_rows tables second p k a s r) k first second q ≡ image_in tables p a s first second q
  side-has true true r room q l = (side-is true r room).owns q l
  side-has true false r room q l = (side-is false r room).owns q l
  side-has false second r room q l = (side-is second r room).others q l

  -- those of the one side are not those of the other
  side-keeps : (first : Bool) (r : List ℕ) → length r ≡ places → (q : ℕ) → q < states
      → rows_in (side_rows tables true p k a s r) k first false q ≡ rows_in r k first false q
  side-keeps true r room q l = (side-is true r room).elsewhere k 1 q small l (λ e. ((λ f. omega arith), (λ f. omega arith)))
  side-keeps false r room q l = (side-is true r room).elsewhere k 0 q small l (λ e. ((λ f. omega arith), (λ f. omega arith)))

  event-has : (pair : Bool) (r : List ℕ) → length r ≡ places → HasEvent tables pair p k a s (event_rows_lem tables pair p k a s r)
  event-has true r room first true d q l =
      side-has first true (side_rows tables false p k a s r) ((side-is false r room).len ∙ room) q l
  event-has true r room first false d q l =
      side-keeps first (side_rows tables false p k a s r) ((side-is false r room).len ∙ room) q l ∙ side-has first false r room q l
  event-has false r room first true d q l = false-true (d refl)
  event-has false r room first false d q l = side-has first false r room q l

  event-elsewhere : (pair : Bool) (r : List ℕ) → length r ≡ places → Elsewhere k r (event_rows_lem tables pair p k a s r)
  event-elsewhere true r room =
      let e = side-elsewhere false r room in
      elsewhere-trans e (side-elsewhere true (side_rows tables false p k a s r) (e.len ∙ room))
  event-elsewhere false r room = side-elsewhere false r room

module _ (tables : EventTables) (pair : Bool) (p : ℕ) where
  node-elsewhere : (k : ℕ) (f : Option Form) (r : List ℕ) → k < most_nodes → length r ≡ places → Elsewhere k r (node_rows tables pair p k f r)
  unfolding node_rows
  node-elsewhere k none r small room = elsewhere-self k r
  node-elsewhere k (some end) r small room = elsewhere-self k r
  node-elsewhere k (some (static_event a s)) r small room = event-elsewhere tables p k a s small pair r room
  node-elsewhere k (some (named_event a n)) r small room = event-elsewhere tables p k a others small pair r room
  node-elsewhere k (some (sequence a b)) r small room = elsewhere-self k r
  node-elsewhere k (some (choice a b)) r small room = elsewhere-self k r
  node-elsewhere k (some (loop a)) r small room = elsewhere-self k r
  node-elsewhere k (some (back a)) r small room = elsewhere-self k r
  node-elsewhere k (some (fresh n b)) r small room = event-elsewhere tables p k create others small pair r room
  node-elsewhere k (some (sandbox s b)) r small room = elsewhere-self k r

  node-has : (k : ℕ) (f : Option Form) (r : List ℕ) → k < most_nodes → length r ≡ places
      → HasRows tables pair p k f (node_rows tables pair p k f r)
  unfolding node_rows
  node-has k none r small room = tt
  node-has k (some end) r small room = tt
  node-has k (some (static_event a s)) r small room = event-has tables p k a s small pair r room
  node-has k (some (named_event a n)) r small room = event-has tables p k a others small pair r room
  node-has k (some (sequence a b)) r small room = tt
  node-has k (some (choice a b)) r small room = tt
  node-has k (some (loop a)) r small room = tt
  node-has k (some (back a)) r small room = tt
  node-has k (some (fresh n b)) r small room = event-has tables p k create others small pair r room
  node-has k (some (sandbox s b)) r small room = tt

  -- what node j has, another node's rows do not change
  has-stays : (j k : ℕ) (f : Option Form) (r r' : List ℕ) → (j ≡ k → ⊥) → j < most_nodes → Elsewhere k r r' → HasRows tables pair p j f r
      → HasRows tables pair p j f r'
  has-stays j k none r r' d b e h = tt
  has-stays j k (some end) r r' d b e h = tt
  has-stays j k (some (static_event a s)) r r' d b e h = λ first second z q l. e.same j (way_of first second) q d b l ∙ h first second z q l
  has-stays j k (some (named_event a n)) r r' d b e h = λ first second z q l. e.same j (way_of first second) q d b l ∙ h first second z q l
  has-stays j k (some (sequence a c)) r r' d b e h = tt
  has-stays j k (some (choice a c)) r r' d b e h = tt
  has-stays j k (some (loop a)) r r' d b e h = tt
  has-stays j k (some (back a)) r r' d b e h = tt
  has-stays j k (some (fresh n c)) r r' d b e h = λ first second z q l. e.same j (way_of first second) q d b l ∙ h first second z q l
  has-stays j k (some (sandbox s c)) r r' d b e h = tt

  module _ (forms : Forms) (r : List ℕ) (len : length r ≡ places) where
    abbrev pub up_to : ℕ → List ℕ
    up_to n = repeat (λ k. node_rows tables pair p k (forms k)) n r

    pub filled-length : (n : ℕ) → n ≤ most_nodes → length (up_to n) ≡ places
    unfolding repeat
    filled-length zero few = len
    filled-length (suc n) few = let l = filled-length n (omega arith) in (node-elsewhere n (forms n) (up_to n) (omega arith) l).len ∙ l

    filled-has : (n : ℕ) → n ≤ most_nodes → (j : ℕ) → j < n → HasRows tables pair p j (forms j) (up_to n)
    unfolding repeat
    filled-has zero few j h = absurd (not-suc-le-zero h)
    filled-has (suc n) few j h = go (filled-has n (omega arith) j) (last-or-lower j n h)
      where
        room : length (up_to n) ≡ places
        room = filled-length n (omega arith)

        go : (j < n → HasRows tables pair p j (forms j) (up_to n)) → (j ≡ n) ⊎ (j < n)
            → HasRows tables pair p j (forms j) (node_rows tables pair p n (forms n) (up_to n))
        go ih (inl e) =
            subst (λ (i : ℕ). HasRows tables pair p i (forms i) (node_rows tables pair p n (forms n) (up_to n))) (sym e)
            (node-has n (forms n) (up_to n) (omega arith) room)
        go ih (inr l) =
            has-stays j n (forms j) (up_to n) (node_rows tables pair p n (forms n) (up_to n)) (λ e. omega arith) (omega arith)
            (node-elsewhere n (forms n) (up_to n) (omega arith) room) (ih l)

    -- the table of rows, filled, has the rows of each node's event
    pub rows-from : (ns : List Node) (n : ℕ) → n ≤ most_nodes → FormsOf ns n forms
        → RowsFrom ns pair (image_in tables p) (rows_in (fill_rows tables pair p n forms r))
    unfolding fill_rows
    rows-from ns n few reads = record {
      static = λ {k} {a} {s} i first second z q l. has-form k (static_event a s) i first second z q l;
      name = λ {k} {a} {n = m} i first second z q l. has-form k (named_event a m) i first second z q l;
      created = λ {k} {n = m} {b} i first second z q l. has-form k (fresh m b) i first second z q l;
    }
      where
        has-form : (k : ℕ) (f : Form) → Is ns k f → HasRows tables pair p k (some f) (up_to n)
        has-form k f i =
            let (l, e) = reads.has k f i in subst (λ (o : Option Form). HasRows tables pair p k o (up_to n)) e (filled-has n few k l)
