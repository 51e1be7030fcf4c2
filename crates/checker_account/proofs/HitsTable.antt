-- The account's hits, read from the table of what is come to.
use Prim.Native.Nat.{ℕ, ◌<◌}
use mathlib.Core.Path.{◌≡◌, refl, sym, ap, ◌∙◌, subst}
use mathlib.Core.Bool.{Bool, true, false, cond}
use mathlib.Core.Option.{Option, some}
use mathlib.Core.List.{List}
use mathlib.Core.Logic.{◌⊎◌, inl, inr, ◌↔◌}
use native.Mathlib.Omega.{arith}
use lib.Dec.{eqb}
use lib.ListN.{get_or}
use lib.Bits.{bit_or}
use borrow.Author.Tests.{eqb-true, eq-eqb}
use Rattle.usage.specs.declared.Edge.{Edge}
use Rattle.usage.specs.declared.Node.{Node}
use Rattle.usage.specs.Limits.{create, states, most_nodes}
use Rattle.usage.specs.Policy.{Offending, EdgesOk}
use Rattle.usage.specs.Past.{reopened}
use Rattle.usage.specs.Outline.{Form, Is, end, static_event, named_event, sequence, choice, loop, back, fresh, sandbox}
use Rattle.usage.proofs.Logic.{none-some}
use Rattle.automaton.specs.Mask.{has}
use Rattle.checker_account.specs.Account.{watched, watched_too, others, Last, by_action, by_opening}
use Rattle.checker_account.specs.Pairs.{numbers}
use Rattle.checker_account.specs.declared.Resources.{Resources}
use Rattle.checker_account.specs.Tables.{watched_by, made, meaning_in, waits, meant_at, Rows, row_on, is_reset, restarted}
use Rattle.checker_account.specs.Tables.{first_created_lem, second_created_lem, place, leaves, last_of, over}
use Rattle.checker_account.specs.Filling.{Asked}
use Rattle.checker_account.specs.Holds.{Start, HitsFrom, EntryGives, table_lens, table_codes, StandsFor, RowsOk, NamesOk, TargetsOk}
use Rattle.checker_account.specs.Holds.{HasCome, HoldsComes, Struck}
use Rattle.checker_account.proofs.MaskLaws.{has_left, has_right, has_either, has_none, has-if, has-unless, has-where, has-where-not}
use Rattle.checker_account.proofs.MaskLaws.{over-found, over-at, offends-has, has-offends, restarted-found, restarted-at}
use Rattle.checker_account.specs.Lens.{Strikes}
use Rattle.checker_account.proofs.LensComes.{SoundCome, WholeCome, strikes-hit, hit-strikes}
use Rattle.checker_account.proofs.EntryLaws.{start_fits}
use Rattle.checker_account.proofs.TableLens.{table-codes}
use Rattle.checker_account.proofs.EndsTable.{name-moves, others-stands, first-stands, second-stands}
use Rattle.checker_account.proofs.ComesTable.{EnteredIn}

module _ (local : Bool) (es : List Edge) (ns : List Node) (p : ℕ) (x : Resources) {pair : Bool} (asked : Asked pair x) (rows : Rows)
    (ok : RowsOk es ns p x rows) (names : NamesOk ns) (targets : TargetsOk ns) (edges : EdgesOk es) (u : List ℕ)
    (comes : HoldsComes local es ns p x u) where
  offending-lt : {q : ℕ} → Offending q → q < states
  offending-lt (inl e) = omega arith
  offending-lt (inr e) = omega arith

  same-last : {l m : Last} → ◌≡◌ {A = Option Last} (some l) (some m) → l ≡ m
  same-last e = cc

  abbrev StruckBy : Last → Type 0
  StruckBy last = Strikes local es ns p (numbers (watched_by x)) (table_lens x) (table_codes x) (EnteredIn u) last

  -- the states after the opening of r by node k
  abbrev after : ℕ → ℕ → ℕ → Bool → ℕ
  after k r m o = restarted (is_reset local p r o) (get_or u (place k o m) 0)

  -- ── What the table says strikes ──

  -- where the states that are come to, moved by a row, have q
  moved-found : (k m r q : ℕ) → k < most_nodes → has (over (row_on rows x k r) (get_or u (place k true m) 0)) q ≡ true
      → (j : ℕ) × EnteredIn u k true m j × (has (row_on rows x k r j) q ≡ true)
  moved-found k m r q l h =
      let (j, lj, hv, hr) = over-found (row_on rows x k r) (get_or u (place k true m) 0) q h in (j, (l, (lj, hv)), hr)

  new-strikes : {k n b : ℕ} (m q r d : ℕ) → Is ns k (fresh n b) → Start x m → StandsFor r → EntryGives waits m n r d → Offending q
      → has (over (row_on rows x k r) (get_or u (place k true m) 0)) q ≡ true → StruckBy (by_action create)
  new-strikes {k} m q r d i s stands gives f h =
      let (j, c, v) = moved-found k m r q (targets.own i) h in
      Strikes.by_a_new {r = r} i s c gives ((ok.created i r stands j q c.1.0 (offending-lt f)).0 v) f

  strikes-at : {k : ℕ} (m q : ℕ) (g : Form) → Is ns k g → Start x m → Offending q → has (leaves local rows p x u k m g) q ≡ true
      → (last : Last) → last_of g ≡ some last → StruckBy last
  unfolding leaves
  strikes-at m q end i s f h last e = none-some e
  strikes-at {k} m q (static_event a r) i s f h last e =
      let (j, c, v) = moved-found k m r q (targets.own i) h in
      subst StruckBy (same-last e) (Strikes.on_a_static i s c ((ok.static i j q c.1.0 (offending-lt f)).0 v) f)
  strikes-at {k} m q (named_event a n) i s f h last e =
      let (j, c, v) = moved-found k m (meant_at m n) q (targets.own i) h in
      subst StruckBy (same-last e)
      (Strikes.on_a_name i s c ((name-moves es ns p x rows ok names m j q i (start_fits asked s).group c.1.0 (offending-lt f)).0 v) f)
  strikes-at m q (sequence a b) i s f h last e = none-some e
  strikes-at m q (choice a b) i s f h last e = none-some e
  strikes-at m q (loop a) i s f h last e = none-some e
  strikes-at m q (back a) i s f h last e = none-some e
  strikes-at {k} m q (fresh n b) i s f h last e = subst StruckBy (same-last e) (go (has_either _ _ q h))
    where
      v : ℕ
      v = get_or u (place k true m) 0

      low : (has (over (row_on rows x k others) v) q ≡ true) ⊎ (has (first_created_lem rows x k m v) q ≡ true) → StruckBy (by_action create)
      low (inl g) = new-strikes m q others _ i s others-stands EntryGives.other f g
      low (inr g) =
          let (em, g₁) = has-unless (made (meaning_in m)) (over (row_on rows x k watched) v) q g in
          new-strikes m q watched _ i s first-stands (EntryGives.first em) f g₁

      go : (has (bit_or (over (row_on rows x k others) v) (first_created_lem rows x k m v)) q ≡ true) ⊎ (has (second_created_lem rows x k m v) q ≡ true)
          → StruckBy (by_action create)
      go (inl g) = low (has_either _ _ q g)
      go (inr g) =
          let (w, g₁) = has-if (waits m) (over (row_on rows x k watched_too) v) q g in
          new-strikes m q watched_too _ i s second-stands (EntryGives.second w) f g₁
  strikes-at {k} m q (sandbox r b) i s f h last e = subst StruckBy (same-last e) (go (eqb r p) refl h)
    where
      at_opening : (o : Bool) → r ≡ p → has (after k r m o) q ≡ true → StruckBy by_opening
      at_opening o d g =
          let (j, lj, hj, e) = restarted-found (is_reset local p r o) (get_or u (place k o m) 0) q (offending-lt f) g in
          let i₁ = subst (λ (r : ℕ). Is ns k (sandbox r b)) d i in
          let f₁ = subst (λ (r : ℕ). Offending (reopened local p r o j)) d (subst Offending (sym e) f) in
          Strikes.by_its_opening {q = j} {o = o} i₁ s (targets.own i, (lj, hj)) f₁

      go : (d : Bool) → eqb r p ≡ d → has (cond d (bit_or (after k r m false) (after k r m true)) 0) q ≡ true → StruckBy by_opening
      go true d h = either (has_either (after k r m false) (after k r m true) q h)
        where
          either : (has (after k r m false) q ≡ true) ⊎ (has (after k r m true) q ≡ true) → StruckBy by_opening
          either (inl g) = at_opening false (eqb-true r p d) g
          either (inr g) = at_opening true (eqb-true r p d) g
      go false d h = has_none q h

  struck-strikes : {last : Last} → Struck local ns p x rows u last → StruckBy last
  struck-strikes {last} h =
      let (q, f, g) = offends-has (leaves local rows p x u h.node h.code h.form) h.offending in
      strikes-at h.code q h.form h.is h.start f g last h.step

  -- ── What strikes is in the table ──

  struck : {last : Last} {k q : ℕ} (m : ℕ) (g : Form) → Is ns k g → Start x m → last_of g ≡ some last → Offending q
      → has (leaves local rows p x u k m g) q ≡ true
      → Struck local ns p x rows u last
  struck {k = k} {q = q} m g i s e f h =
      record { node = k; code = m; form = g; is = i; start = s; step = e; offending = has-offends (leaves local rows p x u k m g) q f h }

  moved_at : (k m r j q : ℕ) → j < states → HasCome u k true m j → has (row_on rows x k r j) q ≡ true
      → has (over (row_on rows x k r) (get_or u (place k true m) 0)) q ≡ true
  moved_at k m r j q l h g = over-at (row_on rows x k r) (get_or u (place k true m) 0) q j l h g

  -- by a creation
  new_in : (k : ℕ) {n : ℕ} (m r d q v : ℕ) → EntryGives waits m n r d → has (over (row_on rows x k r) v) q ≡ true
      → has (bit_or (bit_or (over (row_on rows x k others) v) (first_created_lem rows x k m v)) (second_created_lem rows x k m v)) q ≡ true
  new_in k m r d q v EntryGives.other h = has_left _ _ q (has_left _ _ q h)
  new_in k m r d q v (EntryGives.first em) h =
      has_left _ _ q
      (has_right (over (row_on rows x k others) v) (first_created_lem rows x k m v) q
      (has-where-not (made (meaning_in m)) (over (row_on rows x k watched) v) q em h))
  new_in k m r d q v (EntryGives.second w) h =
      has_right (bit_or (over (row_on rows x k others) v) (first_created_lem rows x k m v)) (second_created_lem rows x k m v) q
      (has-where (waits m) (over (row_on rows x k watched_too) v) q w h)

  new-stands : {m n r d : ℕ} → EntryGives waits m n r d → StandsFor r
  new-stands EntryGives.other = others-stands
  new-stands (EntryGives.first em) = first-stands
  new-stands (EntryGives.second w) = second-stands

  strikes-struck : {last : Last} → StruckBy last → Struck local ns p x rows u last
  unfolding leaves
  strikes-struck (Strikes.on_a_static {k = k} {a = a} {s = r} {q = q} {q' = q'} {c = m} i s c v f) =
      struck m (static_event a r) i s refl f
      (moved_at k m r q q' c.1.0 c.1.1 ((ok.static i q q' c.1.0 (offending-lt f)).1 v))
  strikes-struck (Strikes.on_a_name {k = k} {a = a} {n = n} {q = q} {q' = q'} {c = m} i s c v f) =
      struck m (named_event a n) i s refl f
      (moved_at k m (meant_at m n) q q' c.1.0 c.1.1
      ((name-moves es ns p x rows ok names m q q' i (start_fits asked s).group c.1.0 (offending-lt f)).1 v))
  strikes-struck (Strikes.by_a_new {k = k} {n = n} {b = b} {r = r} {q = q} {q' = q'} {c = m} {d = d} i s c gives v f) =
      struck m (fresh n b) i s refl f
      (new_in k m r d q' (get_or u (place k true m) 0) gives
      (moved_at k m r q q' c.1.0 c.1.1 ((ok.created i r (new-stands gives) q q' c.1.0 (offending-lt f)).1 v)))
  strikes-struck (Strikes.by_its_opening {k = k} {b = b} {q = q} {o = o} {c = m} i s c f) =
      struck m (sandbox p b) i s refl f
      (ap (λ (d : Bool). has (cond d (bit_or (after k p m false) (after k p m true)) 0) (reopened local p p o q)) (eq-eqb p p refl)
      ∙ go o (reopened local p p o q)
      (restarted-at (is_reset local p p o) (get_or u (place k o m) 0) q c.1.0 c.1.1))
    where
      go : (o : Bool) (j : ℕ) → has (after k p m o) j ≡ true → has (bit_or (after k p m false) (after k p m true)) j ≡ true
      go false j e = has_left (after k p m false) (after k p m true) j e
      go true j e = has_right (after k p m false) (after k p m true) j e

  -- ── Through the lens ──

  sound-come : SoundCome local es ns p (numbers (watched_by x)) (table_lens x) (table_codes x) (EnteredIn u)
  sound-come k o m q s (lk, (l, h)) = comes.sound k o m q lk s l h

  whole-come : WholeCome local es ns p (numbers (watched_by x)) (table_lens x) (table_codes x) (EnteredIn u)
  whole-come = record {
    full = λ c. let h = comes.full c in record {
      code = h.code;
      occurs = h.start;
      named = h.names;
      kept = h.made;
      state = h.state;
      entered = (h.node, (h.state, h.entered));
    };
  }

  -- the account's hits are those that the table shows
  pub hits-exact : (last : Last) → HitsFrom local es ns p x last ↔ Struck local ns p x rows u last
  hits-exact last = (
    λ h. strikes-struck (hit-strikes local es ns p (numbers (watched_by x)) (table_lens x) (table_codes x) (table-codes asked) names
        (EnteredIn u) whole-come h.1),
    λ h. strikes-hit local es ns p (numbers (watched_by x)) (table_lens x) (table_codes x) (table-codes asked) names (EnteredIn u) sound-come
        (struck-strikes h),
  )
