-- The least length of all watched resources, and the trace of that length, are what is to be shown.
use Prim.Native.Nat.{ℕ, ◌/◌, ◌+◌, ◌<◌, ◌≤◌}
use mathlib.Core.Path.{◌≡◌, refl, sym, ap, ◌∙◌, subst}
use mathlib.Core.Bool.{Bool, true, false, not, ◌&&◌, cond}
use mathlib.Core.Option.{none, some}
use Rattle.std.specs.Prelude.{Option as Maybe, Some, None}
use mathlib.Core.List.{List, [], ◌∷◌}
use mathlib.Core.Logic.{◌⊎◌, inl, inr}
use native.Mathlib.Omega.{arith}
use native.Mathlib.Decide.{dec_le, dec_lt}
use borrow.Author.Count.{below_more}
use lib.Dec.{eqb, ltb, leb}
use lib.ListN.{length, replicate, get_or}
use Rattle.checker_trace.specs.Answer.{most_numbers}
use Rattle.usage.specs.declared.Edge.{Edge}
use Rattle.usage.specs.Limits.{statics, most_shown, most_nodes, node_fields}
use Rattle.usage.specs.Policy.{PairPolicy, Sees, Moves, along, stays, Offending, EdgesOk}
use Rattle.usage.specs.Past.{Past, count, is_open, May, start, moved, opened, closed, retired}
use Rattle.usage.specs.Outline.{static_event, no_names}
use Rattle.usage.specs.Valid.{Scope, OutlineOk}
use Rattle.usage.specs.Tables.{edges_of, nodes_of}
use Rattle.usage.specs.Check.{Shown, longer}
use Rattle.usage.proofs.Logic.{false-true}
use Rattle.usage.proofs.TableLaws.{nodes-length}
use Rattle.automaton.specs.Move.{rows_at}
use Rattle.checker_account.specs.Account.{watched, each, broken}
use Rattle.checker_account.specs.Single.{no_name, watching}
use Rattle.checker_account.specs.Written.{Written}
use Rattle.checker_account.specs.declared.Resources.{Resources}
use Rattle.checker_account.specs.Tables.{one_resource, unnamed, least, rows_in, places}
use Rattle.checker_account.specs.Filling.{forms_in, one}
use Rattle.checker_account.specs.RowTable.{image_in, fill_rows}
use Rattle.checker_account.specs.Least.{at_break}
use Rattle.checker_account.proofs.SingleLaws.{watching-keeps, singles}
use Rattle.checker_account.proofs.Ahead.{Root, hits-exact}
use Rattle.checker_account.proofs.BegunLaws.{begun-root, come-root}
use Rattle.checker_account.proofs.EventLaws.{event-image}
use Rattle.checker_account.proofs.SightsLaws.{all-longer-sights}
use Rattle.checker_account.proofs.NodeLaws.{forms-of, names-ok, targets-ok}
use Rattle.checker_account.proofs.OneLaws.{one-least, one-searched}
use Rattle.checker_account.proofs.CounterexampleLaws.{written-shown}
use Rattle.checker_account.proofs.RowLaws.{rows_ok}
use Rattle.checker_account.proofs.RowTableLaws.{rows-from}
use Rattle.checker_account.proofs.ScopedLaws.{scoped}
use borrow.Author.Tests.{lt-ltb, le-ltb, leb-true, leb-false}
use Rattle.checker_account.proofs.UntouchedLaws.{goes-watched}
use Rattle.checker_rows.specs.Rows.{row_table}
use Rattle.checker_tables.specs.Search.{touched, has_room, SearchedIf, ArrivesIf, Arrived as Came}
use Rattle.checker_tables.proofs.FitLaws.{outline-fits}
use Rattle.checker_tables.proofs.AnswerLaws.{arrives-searched}
use Rattle.checker_tables.proofs.TouchedLaws.{untouched, dynamic-touched}
use Rattle.checker_rows.proofs.WholeLaws.{whole_in}
use Rattle.checker_lengths.specs.declared.WatchOne.{WatchOne}
use Rattle.checker_lengths.specs.declared.Entry.{Entry}
use Rattle.checker_lengths.specs.Entries.{no_length, all_lengths, entry_of, linear, in_table, below, held}
use Rattle.checker_lengths.specs.Held.{aim_at, meaning_of, watch_of, Source}
use Rattle.checker_lengths.proofs.FullLaws.{full-least}
use Rattle.checker_trace.specs.declared.Shortest.{Shortest}
use Rattle.checker_trace.specs.declared.Spot.{Spot}
use Rattle.checker_trace.specs.declared.Names.{Names}
use Rattle.checker_trace.specs.Code.{
  Spotted,
  Writes,
  root_of,
  TableOf,
  TableIf,
  NeverHits,
  StepsIs,
  shorter_of,
  length_in,
  Told,
  Kept,
  ShortestIs,
  Shows,
}
use Rattle.checker_trace.proofs.StepLaws.{laid_none}

-- the entry of the root, as the account tells it
pub root-meaning : (x : ℕ) → x ≤ watched → least (one_resource x) ≡ meaning_of no_name (ltb x statics)
root-meaning x small = one-least x small ∙ go (ltb x statics)
  where
    go : (b : Bool) → cond b unnamed 0 ≡ meaning_of no_name b
    go true = refl
    go false = refl

pub root_is : (x : ℕ) → x ≤ watched → root_of x ≡ entry_of 0 false (meaning_of no_name (ltb x statics)) 0 (aim_at (broken none))
root_is x small = ap (λ (m : ℕ). entry_of 0 false m 0 16) (root-meaning x small)

-- ── From the flat tables ──

module _ (e t : List ℕ) (edges : EdgesOk (edges_of e)) (ok : OutlineOk (nodes_of t)) (p : ℕ) (policy : p < 8) (rows : List ℕ)
    (filled : rows ≡ row_table (rows_at (edges_of e)) false p t) where
  pub few_nodes : length t / node_fields ≤ most_nodes
  few_nodes = let l = ok.few in let n = nodes-length t in omega arith

  pub source_of : (x : ℕ) → x ≤ watched → Source (edges_of e) (nodes_of t) p x rows
  source_of x l =
      let es = edges_of e in
      let made = rows-from (rows_at es) false p (forms_in t) (replicate places 0) refl (nodes_of t) (length t / node_fields) few_nodes
      (forms-of t) in
      let right = rows_ok es (nodes_of t) p (one_resource x) (one l)
      (rows_in (fill_rows (rows_at es) false p (length t / node_fields) (forms_in t) (replicate places 0))) (image_in (rows_at es) p) edges
      (names-ok (nodes_of t) ok) (event-image es edges p policy) made in
      subst (λ (r : List ℕ). Source es (nodes_of t) p x r) (sym (filled ∙ whole_in (rows_at es) false p t policy few_nodes))
      (record { edges = edges; outline = ok; small = l; moves = right })

module _ (local : Bool) (es : List Edge) (nodes : List ℕ) (p : ℕ) (rows : List ℕ) where
  -- a run of m steps that breaks the policy is not shorter than the least length
  pub steps-least : (x : ℕ) → Source es (nodes_of nodes) p x rows → (v : ℕ) → StepsIs (watch_of local p x) rows nodes v → (m : ℕ)
      → Root local es (nodes_of nodes) p (watching x) m none → m ≤ most_shown → v ≤ m
  steps-least x src v (t, (u, come, full), h) m d l =
      let f = full-least local es nodes p x rows src u t come full in
      let (i, k, g) = f.full come-root at_break d l in
      let same : v ≡ i = h ∙ ap (held t all_lengths) (root_is x src.small) ∙ g.0 in
      omega arith

  -- the least length is one
  pub steps-goes : (x : ℕ) → Source es (nodes_of nodes) p x rows → (v : ℕ) → StepsIs (watch_of local p x) rows nodes v → v ≤ most_shown
      → Root local es (nodes_of nodes) p (watching x) v none
  steps-goes x src v (t, (u, come, full), h) l =
      let f = full-least local es nodes p x rows src u t come full in
      f.lengths.sound (begun-root (watching-keeps x)) at_break (sym (h ∙ ap (held t all_lengths) (root_is x src.small)), l)

  -- two full tables tell the same length
  pub steps-one : (x : ℕ) → Source es (nodes_of nodes) p x rows → (v u : ℕ) → StepsIs (watch_of local p x) rows nodes v
      → StepsIs (watch_of local p x) rows nodes u → v ≤ most_shown → u ≡ v
  steps-one x src v u hv hu l =
      let a = steps-least x src u hu v (steps-goes x src v hv l) l in
      let b = steps-least x src v hv u (steps-goes x src u hu (omega arith)) (omega arith) in
      omega arith

  -- where the search hits nothing, no run breaks the policy
  pub never-root : (x : ℕ) → Source es (nodes_of nodes) p x rows → NeverHits (watch_of local p x) rows nodes → (m : ℕ)
      → Root local es (nodes_of nodes) p (watching x) m none → ⊥
  never-root x src (u, never) m d =
      let ok = src.outline in
      let few = ok.few in
      let count = nodes-length nodes in
      let room = outline-fits nodes ok in
      let answer = subst (λ (b : Bool). SearchedIf b nodes local rows p (one_resource x) false) room
      (arrives-searched (has_room nodes) nodes local rows p (one_resource x) u false never) in
      let (last, z, k) = (hits-exact local es (nodes_of nodes) p (watching x) m none).1 d in
      false-true ((one-searched x src.small local es (nodes_of nodes) p src.edges (names-ok (nodes_of nodes) ok) (rows_in rows) src.moves
      (targets-ok (nodes_of nodes) ok) (length nodes / node_fields) (forms_in nodes) (omega arith) (forms-of nodes) false answer).1
      (last, m, k))

module _ (local : Bool) (es : List Edge) (nodes : List ℕ) (p : ℕ) (rows : List ℕ)
    (src : (x : ℕ) → x ≤ watched → Source es (nodes_of nodes) p x rows) (r : Maybe Shortest) (h : ShortestIs local p rows nodes r)
    (alone : PairPolicy es p → ⊥) where
  at_least : (y m : ℕ) (l : y ≤ watched) → touched nodes y ≡ true → Root local es (nodes_of nodes) p (watching y) m none → m ≤ most_shown
      → length_in r ≤ m
  at_least y m l w d few = go (h.least y l w)
    where
      go : NeverHits (watch_of local p y) rows nodes ⊎ ((v : ℕ) × StepsIs (watch_of local p y) rows nodes v × (length_in r ≤ v)) → length_in r ≤ m
      go (inl never) = absurd (never-root local es nodes p rows y (src y l) never m d)
      go (inr (v, s, k)) = let g = steps-least local es nodes p rows y (src y l) v s m d few in omega arith

  -- of a static that need not be watched, the dynamic resource tells
  none-shorter : (y m : ℕ) → y ≤ watched → Root local es (nodes_of nodes) p (watching y) m none → m ≤ most_shown → length_in r ≤ m
  none-shorter y m l d few = go (touched nodes y) refl
    where
      go : (b : Bool) → touched nodes y ≡ b → length_in r ≤ m
      go true e = at_least y m l e d few
      go false e =
          let u = untouched nodes y e in
          let s = src y l in
          at_least watched m (omega arith) (dynamic-touched nodes)
          (goes-watched local es (nodes_of nodes) p y (Scope (nodes_of nodes)) s.edges (scoped (nodes_of nodes) s.outline) u.static
          (λ k a i. let (b, f) = (forms-of nodes).has k (static_event a y) i in u.no_event k a b f) d refl (lt-ltb y statics u.static)) few

  pub shown-some : (x : ℕ) → x ≤ watched → (edges : EdgesOk es) (ok : OutlineOk (nodes_of nodes)) → length_in r ≤ most_shown → (after : Past)
      → Written local es (nodes_of nodes) p (watching x) (length_in r) false 0 no_names no_name (ltb x statics) 0 [] (broken none) after
      → Shown local es (nodes_of nodes) p (some after)
  shown-some x small edges ok few after d =
      written-shown local es (nodes_of nodes) (Scope (nodes_of nodes)) p edges (scoped (nodes_of nodes) ok) (singles es p alone)
      (x, small) d few
      (λ i m g. go i.0 m i.1 g (dec_le m most_shown))
    where
      go : (y m : ℕ) → y ≤ watched → Root local es (nodes_of nodes) p (watching y) m none → Dec (m ≤ most_shown) → length_in r ≤ m
      go y m l g (yes k) = none-shorter y m l g k
      go y m l g (no k) = omega arith

  pub shown-none : (edges : EdgesOk es) (ok : OutlineOk (nodes_of nodes)) → most_shown < length_in r → Shown local es (nodes_of nodes) p none
  shown-none edges ok big =
      all-longer-sights local es (nodes_of nodes) (Scope (nodes_of nodes)) p edges (scoped (nodes_of nodes) ok) (singles es p alone)
      (λ i m by k. go i.0 m i.1 ((hits-exact local es (nodes_of nodes) p (watching i.0) m none).0 (by, each, k)) (dec_le m most_shown))
    where
      go : (y m : ℕ) → y ≤ watched → Root local es (nodes_of nodes) p (watching y) m none → Dec (m ≤ most_shown) → most_shown < m
      go y m l d (yes k) = let g = none-shorter y m l d k in absurd (omega arith)
      go y m l d (no k) = omega arith

-- ── A number that is no policy ──

module _ (local : Bool) (es : List Edge) (edges : EdgesOk es) (p : ℕ) (big : 8 ≤ p) where
  unmoved : {a : ℕ} {sees : ℕ → ℕ → Type 0} {q q' : ℕ} → Moves es p a sees q q' → q ≡ q'
  unmoved (along e m f) = let l = (edges.each e m).policy in let g = f.policy in absurd (omega arith)
  unmoved (stays n) = refl

  stays-reset : (b : Bool) (q : ℕ) → 0 ≡ q → 0 ≡ cond b 0 q
  stays-reset true q e = refl
  stays-reset false q e = e

  at-start : {xs : List ℕ} {past : Past} {q : ℕ} → May local es p (Sees xs) past q → 0 ≡ q
  at-start start = refl
  at-start (moved m v) = at-start m ∙ unmoved v
  at-start (opened {s = s} {past = past} {q = q} m) = stays-reset (local && (eqb s p && not (is_open p past))) q (at-start m)
  at-start (closed m) = at-start m
  at-start (retired m) = at-start m

  start-good : {q : ℕ} → 0 ≡ q → Offending q → ⊥
  start-good e (inl f) = omega arith
  start-good e (inr f) = omega arith

  pub no-policy-shown : (nodes : List ℕ) → Shown local es (nodes_of nodes) p none
  no-policy-shown nodes = longer (λ past t v. absurd (start-good (at-start v.1.3) v.1.4))

-- ── The table of one watched resource ──

pub arrives-room : (b : Bool) (nodes : List ℕ) (local : Bool) (rows : List ℕ) (p : ℕ) (x : Resources) (u : List ℕ) (r : Bool)
    → ArrivesIf b nodes local rows p x u r → r ≡ true → (b ≡ true) × Came nodes local rows p x u
arrives-room true nodes local rows p x u r h e = (refl, h.arrived)
arrives-room false nodes local rows p x u r h e = false-true (sym h.0 ∙ e)

pub table_of : (b : Bool) (w : WatchOne) (rows nodes t : List ℕ) → TableIf b w rows nodes t → b ≡ true → TableOf w rows nodes t
table_of true w rows nodes t h e = h
table_of false w rows nodes t h e = false-true e

pub table_none : (b : Bool) (w : WatchOne) (rows nodes t : List ℕ) → TableIf b w rows nodes t → b ≡ false → NeverHits w rows nodes
table_none true w rows nodes t h e = false-true (sym e)
table_none false w rows nodes t h e = h

-- ── The watched resources in turn ──

-- a length that is held fits in a byte
pub held-fits : (t : List ℕ) (e : Entry) → held t all_lengths e ≤ no_length
unfolding held below
held-fits t e = go (in_table e)
  where
    least-of : (v : ℕ) → Dec (v < all_lengths) → below all_lengths v ≤ no_length
    least-of v (yes h) = rw (lt-ltb v all_lengths h) (omega arith)
    least-of v (no h) = rw (le-ltb v all_lengths (omega arith)) (omega arith)

    go : (b : Bool) → cond b (below all_lengths (get_or t (linear e) 0)) no_length ≤ no_length
    go true = least-of (get_or t (linear e) 0) (dec_lt (get_or t (linear e) 0) all_lengths)
    go false = omega arith

module _ (local : Bool) (p : ℕ) (rows nodes : List ℕ) where
  -- a resource of which a length that is `length` or more is known, or that none is
  abbrev Known : ℕ → ℕ → Type 0
  Known length y = touched nodes y ≡ true
      → NeverHits (watch_of local p y) rows nodes ⊎ ((v : ℕ) × StepsIs (watch_of local p y) rows nodes v × (length ≤ v))

  -- the least of those below x that are watched
  pub record Least-below (x : ℕ) (r : Maybe Shortest) : Type 0 where
    pub told : Told local p rows nodes r
    pub least : (y : ℕ) → y < x → Known (length_in r) y

  known-less : {length v : ℕ} {y : ℕ} → v ≤ length → Known length y → Known v y
  known-less {length} {v} {y} l h e = go (h e)
    where
      at_most : {u : ℕ} → length ≤ u → v ≤ u
      at_most z = omega arith

      go : NeverHits (watch_of local p y) rows nodes ⊎ ((u : ℕ) × StepsIs (watch_of local p y) rows nodes u × (length ≤ u))
          → NeverHits (watch_of local p y) rows nodes ⊎ ((u : ℕ) × StepsIs (watch_of local p y) rows nodes u × (v ≤ u))
      go (inl g) = inl g
      go (inr (u, g, z)) = inr (u, g, at_most z)

  -- where the next one need not be watched or is not hit
  pub least-past : {x : ℕ} {r : Maybe Shortest} → Least-below x r
      → (touched nodes x ≡ false) ⊎ NeverHits (watch_of local p x) rows nodes → Least-below (x + 1) r
  least-past {x} {r} h g = record { told = h.told; least = below_more (Known (length_in r)) x h.least (go g) }
    where
      go : (touched nodes x ≡ false) ⊎ NeverHits (watch_of local p x) rows nodes → Known (length_in r) x
      go (inl n) e = false-true (sym n ∙ e)
      go (inr n) e = inl n

  le-self : (n : ℕ) → n ≤ n
  le-self n = omega arith

  -- where its least length is v
  pub least-next : {x : ℕ} (r : Maybe Shortest) → Least-below x r → x ≤ watched → (v : ℕ) → v ≤ no_length
      → StepsIs (watch_of local p x) rows nodes v → Least-below (x + 1) (Some (shorter_of r x v))
  least-next {x} None h l v f g = record {
    told = (l, g);
    least = below_more (Known v) x (λ y m. known-less f (h.least y m)) (λ _. inr (v, g, le-self v));
  }
  least-next {x} (Some s) h l v f g = go (leb s.length v) refl
    where
      go : (b : Bool) → leb s.length v ≡ b
          → Least-below (x + 1)
          (Some (cond b (record { resource = s.resource; length = s.length; kept = false }) (record { resource = x; length = v; kept = true })))
      go true e = record { told = h.told; least = below_more (Known s.length) x h.least (λ _. inr (v, g, leb-true s.length v e)) }
      go false e =
          let k = leb-false s.length v e in
          record {
            told = (l, g);
            least = below_more (Known v) x (λ y m. known-less (omega arith) (h.least y m)) (λ _. inr (v, g, le-self v));
          }

  -- the table is that of the next one now
  pub kept-next : (r : Maybe Shortest) (x v : ℕ) (t : List ℕ) → TableOf (watch_of local p x) rows nodes t
      → Kept local p rows nodes (Some (shorter_of r x v)) t
  kept-next None x v t g = λ _. g
  kept-next (Some s) x v t g = go (leb s.length v)
    where
      go : (b : Bool)
          → Kept local p rows nodes
          (Some (cond b (record { resource = s.resource; length = s.length; kept = false }) (record { resource = x; length = v; kept = true })))
          t
      go true = λ e. false-true e
      go false = λ _. g

-- ── The root ──

abbrev pub none-given : Names
none-given = record { numbers = 0 ∷ 0 ∷ 0 ∷ 0 ∷ [] }

abbrev pub at_first : Spot
at_first = record { at = 0; next = 16 }

none-some : {A : Type 0} {r : ℕ} → ◌≡◌ {A = _} none (some r) → A
none-some e = absurd (omega (arith, apart e))
  where
    apart : {r : ℕ} → ◌≡◌ {A = _} none (some r) → ◌≡◌ {A = ℕ} 0 1
    apart e = cc

first-spot : Spotted [] at_first
unfolding count
first-spot = record { at = refl; next = refl }

-- nothing is shown where the search hits nothing: there is no such length
pub never-shows : (w : WatchOne) (rows nodes : List ℕ) (n : ℕ) (trace trace' : List ℕ) → NeverHits w rows nodes → n ≤ most_shown
    → Shows w rows nodes n trace trace'
never-shows w rows nodes n trace trace' never few es src steps =
    absurd (never-root w.local es nodes w.policy rows w.resource src never n
    (steps-goes w.local es nodes w.policy rows w.resource src n steps few))

pub root-shows : (w : WatchOne) (rows nodes t : List ℕ) (n : ℕ) (trace : List ℕ) (r : Spot) (trace' : List ℕ) → TableOf w rows nodes t
    → n ≤ most_shown → most_numbers ≤ length trace
    → Writes w rows nodes t (root_of w.resource) n none-given at_first trace r trace' → Shows w rows nodes n trace trace'
root-shows w rows nodes t n trace r trace' (u, come, full) few room d es src steps =
    let x = w.resource in
    let least-is = full-least w.local es nodes w.policy x rows src u t come full in
    let same : held t all_lengths (root_of x) ≡ n = steps-one w.local es nodes w.policy rows x src n
    (held t all_lengths (root_of x)) steps (t, (u, come, full), refl) few in
    let (after, run, spot, laid-is) = d es no_name (ltb x statics) (broken none) no_names trace [] (record { source = src; least = least-is })
    (record {
      meaning = root-meaning x src.small;
      number = refl;
      come = come-root;
      begun = begun-root (watching-keeps x);
      aimed = at_break;
    }) same
    (λ m s. absurd ((scoped (nodes_of nodes) src.outline).root s)) (λ m v e. none-some e) first-spot (laid_none trace) (omega arith) in
    (after, run, laid-is)
