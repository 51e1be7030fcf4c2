-- A full table holds the least lengths.
use Prim.Native.Nat.{ℕ, ◌/◌, ◌<◌, ◌≤◌}
use mathlib.Core.Path.{◌≡◌, refl, sym, ap, ◌∙◌, subst}
use mathlib.Core.Bool.{Bool, true, false}
use mathlib.Core.Option.{Option, none, some}
use mathlib.Core.List.{List}
use native.Mathlib.Omega.{arith}
use native.Mathlib.Decide.{ℕ_discrete}
use lib.ListN.{length, get_or, set, replicate, length-replicate, length-set, get_or-replicate}
use lib.Seq.{get_or-set_same, get_or-set_other}
use Rattle.usage.specs.declared.Edge.{Edge}
use Rattle.usage.specs.Limits.{most_shown}
use Rattle.usage.specs.Outline.{Form, Is}
use Rattle.usage.specs.Valid.{Scope}
use Rattle.usage.specs.Tables.{nodes_of}
use Rattle.usage.proofs.Logic.{false-true}
use Rattle.checker_account.specs.Account.{Aim, Goes}
use Rattle.checker_account.specs.Single.{watching}
use Rattle.checker_account.specs.Least.{Starts, Followed, ComeTo, Begun, Aimed, at_end, at_break, Rule, Lengths, Least, Closed}
use Rattle.checker_account.specs.Tables.{one_resource, name_of, rows_in}
use Rattle.checker_account.specs.Filling.{forms_in, one}
use Rattle.checker_account.specs.Holds.{HasCome, HoldsComes}
use Rattle.checker_tables.specs.Search.{Arrived}
use Rattle.usage.proofs.TableLaws.{nodes-length}
use Rattle.checker_account.proofs.BegunLaws.{come-followed}
use Rattle.checker_account.proofs.SearchLaws.{comes-held}
use Rattle.checker_account.proofs.OneLaws.{Met, one-come}
use Rattle.checker_account.proofs.SingleLaws.{watching-keeps}
use Rattle.checker_account.proofs.NodeLaws.{forms-of, names-ok, targets-ok}
use Rattle.checker_account.proofs.ScopedLaws.{scoped}
use Rattle.checker_account.proofs.Starts.{stays-made}
use Rattle.checker_account.proofs.LeastLaws.{rule-sound, closed-least}
use Rattle.outline_nodes.proofs.SaidLaws.{form-at}
use Rattle.checker_lengths.specs.declared.Entry.{Entry}
use Rattle.checker_lengths.specs.Entries.{size, no_length, all_lengths, entry_of, linear, in_table, held}
use Rattle.checker_lengths.specs.Offers.{low_end_lem, offer_from, ways_of}
use Rattle.checker_lengths.specs.Filling.{form_here, Reach, start, falls, Settled, Full}
use Rattle.checker_lengths.specs.Held.{aim_at, meaning_of, entries_in, watch_of, Source}
use Rattle.checker_lengths.proofs.EntryLaws.{bounds, in-table, linear-lt, linear-one, low-end-le, held-less, held-is}
use Rattle.checker_lengths.proofs.Numbers.{aim-ended, aim-state, start_of, meaning-lt, meaning-is}
use Rattle.checker_lengths.proofs.RuleLaws.{Reads, offered, small-node}
use Rattle.checker_lengths.proofs.RuledLaws.{Stands, ruled}

length-below : (n : ℕ) → n ≤ most_shown → n < no_length
length-below n l = omega arith

no_such : {A : Type 0} {v : ℕ} (n : ℕ) → v ≡ n → v ≡ no_length → n ≤ most_shown → A
no_such n g f l = absurd (omega arith)

-- ── The entries of a table ──

module _ (local : Bool) (es : List Edge) (nodes : List ℕ) (p x : ℕ) (rows : List ℕ) (src : Source es (nodes_of nodes) p x rows) where
  pub reads_in : (t : List ℕ) (most : ℕ) → Reads local es (nodes_of nodes) p x rows src (held t most) (entries_in t most)
  reads_in t most = record {
    read = λ {n} {o} {k} {w} {c} {q} {t = a} e. let h =
        held-is t most (entry_of k o (meaning_of w c) q (aim_at a)) n e.0 (length-below n e.1) in (e.0, e.1, (bounds _ h.0).aim);
  }

  pub stands-in : (t : List ℕ) (most : ℕ) → Stands local es (nodes_of nodes) p x rows src (held t most) (entries_in t most)
  stands-in t most = record { stand = λ n o k w c q a h l. (h, l) }

  -- the form of a node, as the code reads it
  pub form-here : (k : ℕ) (f : Form) → Is (nodes_of nodes) k f → (k < length nodes / 3) × (form_here nodes k ≡ some f)
  form-here k f i = let (l, e) = (forms-of nodes).has k f i in (l, form-at nodes k l ∙ e)

  pub here-form : (k : ℕ) (f : Form) → k < length nodes / 3 → form_here nodes k ≡ some f → Is (nodes_of nodes) k f
  here-form k f l e = (forms-of nodes).is k f l (sym (form-at nodes k l) ∙ e)

  -- ── Filling keeps it that each entry is a length ──

  -- what a rule gave, by a table of lengths, is a length
  given : (t : List ℕ) → Lengths local es (nodes_of nodes) p (watching x) most_shown (entries_in t all_lengths)
      → (n : ℕ) (o : Bool) (k w : ℕ) (c : Bool) (q : ℕ) (a : Aim Bool) → Begun (watching x) w c q → Aimed a → aim_at a < 17
      → n ≤ 200 → (r : ℕ) (f : Option Form) → k < length nodes / 3 → form_here nodes k ≡ f
      → offer_from (watch_of local p x) rows (held t all_lengths) (entry_of k o (meaning_of w c) q (aim_at a)) r f ≡ n
      → Goes local es (nodes_of nodes) p (watching x) n o k w c q a
  given t s n o k w c q a b m h few r none l f e = absurd (omega arith)
  given t s n o k w c q a b m h few r (some f) l g e =
      rule-sound local es (nodes_of nodes) p (watching x) (watching-keeps x) (Scope (nodes_of nodes)) src.edges
      (scoped (nodes_of nodes) src.outline) most_shown
      (entries_in t all_lengths) s b m
      (ruled local es (nodes_of nodes) p x rows src (held t all_lengths) (entries_in t all_lengths)
      (stands-in t all_lengths) n o k w c q a b m h few f r (here-form k f l g) e)

  lengths-of : (t : List ℕ) → ((n : ℕ) (o : Bool) (k w : ℕ) (c : Bool) (q : ℕ) (a : Aim Bool) → Begun (watching x) w c q → Aimed a
      → entries_in t all_lengths n o k w c q a → Goes local es (nodes_of nodes) p (watching x) n o k w c q a)
      → Lengths local es (nodes_of nodes) p (watching x) most_shown (entries_in t all_lengths)
  lengths-of t h = record {
    sound = λ {n} {o} {k} {w} {c} {q} {t = a} b m e. h n o k w c q a b m e;
    capped = λ e. e.1;
    one = λ e f. sym e.0 ∙ f.0;
  }

  -- the entry that fell, and any other
  fallen : (t : List ℕ) (e : Entry) (r v : ℕ) → length t ≡ size
      → Lengths local es (nodes_of nodes) p (watching x) most_shown (entries_in t all_lengths)
      → in_table e ≡ true → e.node < length nodes / 3
      → v ≡ offer_from (watch_of local p x) rows (held t all_lengths) e r (form_here nodes e.node)
      → (n : ℕ) (o : Bool) (k w : ℕ) (c : Bool) (q : ℕ) (a : Aim Bool) → Begun (watching x) w c q → Aimed a
      → entries_in (set t (linear e) v) all_lengths n o k w c q a → Goes local es (nodes_of nodes) p (watching x) n o k w c q a
  fallen t e r v size_is s inside small h n o k w c q a b m (f, few) =
      let here = entry_of k o (meaning_of w c) q (aim_at a) in
      let (i, g, u) = held-is (set t (linear e) v) all_lengths here n f (omega arith) in
      go i g (ℕ_discrete (linear here) (linear e))
    where
      go : in_table (entry_of k o (meaning_of w c) q (aim_at a)) ≡ true
          → get_or (set t (linear e) v) (linear (entry_of k o (meaning_of w c) q (aim_at a))) 0 ≡ n
          → Dec (linear (entry_of k o (meaning_of w c) q (aim_at a)) ≡ linear e) → Goes local es (nodes_of nodes) p (watching x) n o k w c q a
      go i g (yes z) =
          let here = entry_of k o (meaning_of w c) q (aim_at a) in
          let same : e ≡ here = linear-one e here inside i (sym z) in
          let room = linear-lt e inside in
          let vn : v ≡ n = sym (get_or-set_same t (linear e) v 0 (omega arith)) ∙ sym (ap (λ (j : ℕ). get_or (set t (linear e) v) j 0) z) ∙ g in
          let eo : offer_from (watch_of local p x) rows (held t all_lengths) here r (form_here nodes k) ≡ n =
          ap (λ (y : Entry). offer_from (watch_of local p x) rows (held t all_lengths) y r (form_here nodes y.node)) (sym same) ∙ sym h
          ∙ vn in
          given t s n o k w c q a b m (bounds here i).aim few r (form_here nodes k)
          (subst (λ (y : Entry). y.node < length nodes / 3) same small) refl eo
      go i g (no z) =
          let here = entry_of k o (meaning_of w c) q (aim_at a) in
          let old : get_or t (linear here) 0 ≡ n = sym (get_or-set_other t (linear e) (linear here) v 0 z) ∙ g in
          s.sound b m (sym (held-less t all_lengths here (linear here) i refl (omega arith)) ∙ old, few)

  pub reach-lengths : {t : List ℕ} → Reach (watch_of local p x) rows nodes t → (length t ≡ size)
      × Lengths local es (nodes_of nodes) p (watching x) most_shown (entries_in t all_lengths)
  reach-lengths start = (
    length-replicate {A = ℕ} size no_length,
    lengths-of (replicate size no_length) (λ n o k w c q a b m e. never n (entry_of k o (meaning_of w c) q (aim_at a)) e.0 e.1),
  )
    where
      never : {A : Type 0} (n : ℕ) (e : Entry) → held (replicate size no_length) all_lengths e ≡ n → n ≤ most_shown → A
      never n e h l =
          let (i, g, k) = held-is (replicate size no_length) all_lengths e n h (length-below n l) in
          no_such n g (get_or-replicate {A = ℕ} size (linear e) no_length 0 (linear-lt e i)) l
  reach-lengths (falls {t = t} e r {v = v} d inside small h) =
      let (l, s) = reach-lengths d in
      (length-set t (linear e) v ∙ l, lengths-of (set t (linear e) v) (fallen t e r v l s inside small h))

  -- ── No rule adds anything ──

  -- an aim that the start can come to is not below the first end of it
  low-aim : (t : List ℕ) → Lengths local es (nodes_of nodes) p (watching x) most_shown (entries_in t all_lengths)
      → (n : ℕ) (o : Bool) (k w : ℕ) (c : Bool) (q : ℕ) (a : Aim Bool) → Begun (watching x) w c q → Aimed a → aim_at a < 17
      → Rule local es (nodes_of nodes) p (watching x) (entries_in t all_lengths) n o k w c q a → low_end_lem (meaning_of w c) ≤ aim_at a
  low-aim t s n o k w c q a b at_break h r = let l = low-end-le (meaning_of w c) in omega arith
  low-aim t s n o k w false q a b (at_end {c = c₁} {q = q₁}) h r = omega arith
  low-aim t s n o k w true q a b (at_end {c = true} {q = q₁}) h r = let e = aim-ended true q₁ (aim-state true q₁ h) in omega arith
  low-aim t s n o k w true q a b (at_end {c = false} {q = q₁}) h r =
      let d = rule-sound local es (nodes_of nodes) p (watching x) (watching-keeps x) (Scope (nodes_of nodes)) src.edges
      (scoped (nodes_of nodes) src.outline) most_shown
      (entries_in t all_lengths) s b at_end r in
      false-true (stays-made d refl)

  -- a start that is come to is in the table of what is come to, by the code's number of its meaning
  come-at : {u : List ℕ} {o : Bool} {k w : ℕ} {c : Bool} {q : ℕ}
      → Met x src.small local es (nodes_of nodes) p src.edges (names-ok (nodes_of nodes) src.outline) u o k w c q
      → HasCome u k o (meaning_of w c) q
  come-at {u} {o} {k} {w} {c} {q} h =
      let same : h.meaning ≡ meaning_of w c =
      sym (meaning-is h.meaning) ∙ ap (λ (z : Bool). meaning_of (name_of h.meaning) z) h.made
      ∙ ap (λ (v : ℕ). meaning_of v c) h.name in
      subst (λ (m : ℕ). HasCome u k o m q) same h.entered

  abbrev pub Run : Starts (watching x)
  Run = ComeTo local es (nodes_of nodes) p (watching x)

  pub run-followed : Followed local es (nodes_of nodes) p (watching x) Run
  run-followed = come-followed local es (nodes_of nodes) p (watching x) src.edges (watching-keeps x)
      (names-ok (nodes_of nodes) src.outline)

  pub full-closed : (u t : List ℕ) → HoldsComes local es (nodes_of nodes) p (one_resource x) u → Full (watch_of local p x) rows nodes u t
      → Lengths local es (nodes_of nodes) p (watching x) most_shown (entries_in t all_lengths)
      → Closed local es (nodes_of nodes) p (watching x) Run most_shown (entries_in t all_lengths)
  full-closed u t holds full s n o k w c q a come m r few =
      let here = entry_of k o (meaning_of w c) q (aim_at a) in
      let b = run-followed.occurs come in
      let f = offered local es (nodes_of nodes) p x rows src (held t all_lengths) (entries_in t all_lengths)
      (reads_in t all_lengths) b m r few in
      let (l, e) = form-here k f.form f.is in
      let st = start_of b src.small in
      let low = low-aim t s n o k w c q a b m f.in_range_lem r in
      let set_at = full.settled k l o (meaning_of w c) q st.low (meaning-lt b) b.state (come-at
      (one-come x src.small local es (nodes_of nodes) p src.edges (names-ok (nodes_of nodes) src.outline) u holds come.1)) in
      let settled : get_or t (linear here) 0 ≤ n =
      at_most f.gives (subst (λ (y : Option Form). (j : ℕ) → j < ways_of y → (i : ℕ) → low_end_lem (meaning_of w c) ≤ i → i < 17
      → Settled (watch_of local p x) rows y t (entry_of k o (meaning_of w c) q i) j) e set_at f.rule f.listed (aim_at a) low
      f.in_range_lem) in
      let inside = in-table here (small-node local es (nodes_of nodes) p x rows src (held t all_lengths) f.is) (meaning-lt b) b.state
      f.in_range_lem in
      (get_or t (linear here) 0, settled, (sym (held-less t all_lengths here (linear here) inside refl (omega arith)), omega arith))
    where
      at_most : {u v : ℕ} → v ≡ n → (v ≤ most_shown → u ≤ v) → u ≤ n
      at_most e h = let l = h (omega arith) in omega arith

  pub full-least : (u t : List ℕ) → Arrived nodes local rows p (one_resource x) u → Full (watch_of local p x) rows nodes u t
      → Least local es (nodes_of nodes) p (watching x) Run most_shown (entries_in t all_lengths)
  full-least u t come full =
      let s = (reach-lengths full.reach).1 in
      let few = src.outline.few in
      let count = nodes-length nodes in
      let holds = comes-held local es (nodes_of nodes) p (one_resource x) (one src.small) (rows_in rows) src.edges src.moves
      (names-ok (nodes_of nodes) src.outline) (targets-ok (nodes_of nodes) src.outline) (length nodes / 3) (forms_in nodes) (omega arith)
      (forms-of nodes) come.ends come.ends_filled u come.comes_filled in
      closed-least local es (nodes_of nodes) p (watching x) (watching-keeps x) (Scope (nodes_of nodes)) src.edges
      (scoped (nodes_of nodes) src.outline) most_shown
      (entries_in t all_lengths) Run run-followed s (full-closed u t holds full s)
