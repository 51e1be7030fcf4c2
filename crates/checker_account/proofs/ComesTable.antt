-- The table of what is come to: what the rules add to a sound table is come to, and a table to which they add nothing has all that is come
-- to.
use Prim.Native.Nat.{ℕ, ◌+◌, ◌<◌}
use mathlib.Core.Path.{◌≡◌, refl, sym, ◌∙◌, subst}
use mathlib.Core.Bool.{Bool, true, false, ◌||◌, cond, true≢false}
use mathlib.Core.List.{List, [], ◌∷◌}
use native.Mathlib.Omega.{arith}
use lib.Dec.{eqb}
use lib.ListN.{get_or}
use Rattle.usage.specs.declared.Edge.{Edge}
use Rattle.usage.specs.declared.Node.{Node}
use Rattle.usage.specs.Limits.{create, states, most_nodes}
use Rattle.usage.specs.Policy.{Sees, Moves, EdgesOk}
use Rattle.usage.specs.Past.{reopened}
use Rattle.usage.specs.Outline.{Form, Is, end, static_event, named_event, sequence, choice, loop, back, fresh, sandbox}
use Rattle.automaton.specs.Mask.{has}
use Rattle.checker_account.specs.Account.{watched, watched_too, others}
use Rattle.checker_account.specs.Pairs.{numbers}
use Rattle.checker_account.specs.declared.Arrival.{Arrival}
use Rattle.checker_account.specs.declared.Resources.{Resources}
use Rattle.checker_account.specs.Lens.{ComeTable, Leads}
use Rattle.checker_account.specs.Tables.{watched_by, made, meaning_in, late_group, waits, in_group_lem, forgotten_in, first_named_lem, second_named_lem}
use Rattle.checker_account.specs.Tables.{entry_after, at, half, base, begun, Rows, row_on, place, halves, second_arrivals, fresh_arrivals}
use Rattle.checker_account.specs.Tables.{arrivals, over, is_reset, restarted}
use Rattle.checker_account.specs.Filling.{Asked}
use Rattle.checker_account.specs.Holds.{InUse, Start, StaysMade, EntryGives, CodeThen, table_lens, table_codes, StandsFor, RowsOk, NamesOk}
use Rattle.checker_account.specs.Holds.{TargetsOk, HasEnd, HoldsEnds, ComesAt, HasCome}
use Rattle.checker_account.specs.Holds.{SoundComes, Each, Entered, ClosedComes, HoldsComes}
use Rattle.checker_account.proofs.MaskLaws.{has-unless, has-where-not, over-found, over-at, has-half, restarted-found, restarted-at}
use Rattle.checker_account.proofs.LensEnds.{Sound, Whole, ends-later}
use Rattle.checker_account.proofs.LensComes.{leads-sound, closed-come}
use Rattle.checker_account.proofs.EntryLaws.{same-stays, start-in-use}
use Rattle.checker_account.proofs.TableLens.{table-lens, table-codes, waits-late}
use Rattle.checker_account.proofs.EndsTable.{Held, others-stands, first-stands, second-stands}

-- what a table says is come to, of the nodes and states that there are
abbrev pub EnteredIn : List ℕ → ComeTable ℕ
EnteredIn u k o c q = (k < most_nodes) × ((q < states) × HasCome u k o c q)

-- arrivals that there are only where b says so
pub each-if : (P : Arrival → Type 0) (b : Bool) (gs : List Arrival) → (b ≡ true → Each P gs) → Each P (cond b gs [])
each-if P true gs h = h refl
each-if P false gs h = tt

each-where : (P : Arrival → Type 0) (b : Bool) (gs : List Arrival) → b ≡ true → Each P (cond b gs []) → Each P gs
each-where P true gs e h = h
each-where P false gs e h = absurd (true≢false (sym e))

module _ (local : Bool) (es : List Edge) (ns : List Node) (p : ℕ) (x : Resources) {pair : Bool} (asked : Asked pair x) (rows : Rows)
    (ok : RowsOk es ns p x rows) (names : NamesOk ns) (targets : TargetsOk ns) (t : Bool → List ℕ)
    (ends : (o : Bool) → HoldsEnds local es ns p x o (t o)) where
  abbrev Rules : ComeTable ℕ → ComeTable ℕ
  Rules U = Leads local es ns p (numbers (watched_by x)) (table_lens x) (table_codes x) (λ o. Held (t o)) U

  ends-sound : (o : Bool) → Sound local es ns p (numbers (watched_by x)) (table_lens x) o (Held (t o))
  ends-sound o k e q h q' u (lk, (l, (l', s))) = (ends o).sound k e q h q' lk u l l' s

  ends-whole : (o : Bool) → Whole local es ns p (numbers (watched_by x)) (table_lens x) o (Held (t o))
  ends-whole o k e q h q' u l f = let (lk, (l', s)) = (ends o).full k e q h q' u l f in (l', (lk, (l, (l', s))))

  -- ── What the rules add ──

  -- what starts that are come to lead to is come to
  led : (k : ℕ) (o : Bool) (c q : ℕ) → Rules (ComesAt local es ns p x) k o c q → ComesAt local es ns p x k o c q
  led k o c q r =
      leads-sound local es ns p (numbers (watched_by x)) (table_lens x) (table_codes x) (table-lens asked) (table-codes asked) names
      (λ o. Held (t o)) (ComesAt local es ns p x) ends-sound (λ k o c q s h. h) k o c q r

  -- each state of the arrival is come to
  abbrev pub Right : Arrival → Type 0
  Right g = (q : ℕ) → q < states → has g.states q ≡ true → ComesAt local es ns p x g.to g.opened g.meaning q

  -- from a node that is come to in the states v
  module _ (k : ℕ) (o : Bool) (c v : ℕ) (s : Start x c) (h : (q : ℕ) → q < states → has v q ≡ true → ComesAt local es ns p x k o c q) where
    new_right : {n b : ℕ} (r d : ℕ) → Is ns k (fresh n b) → StandsFor r → EntryGives waits c n r d → (q : ℕ) → q < states
        → has (over (row_on rows x k r) v) q ≡ true → ComesAt local es ns p x b o d q
    new_right {n} {b} r d i stands gives q l g =
        let (j, lj, hv, hr) = over-found (row_on rows x k r) v q g in
        led b o d q (Leads.to_new {r = r} i s (h j lj hv) gives ((ok.created i r stands j q lj l).0 hr))

    first-right : {n b : ℕ} → Is ns k (fresh n b) → (q : ℕ) → q < states
        → has (cond (made (meaning_in c)) 0 (over (row_on rows x k watched) v)) q ≡ true → ComesAt local es ns p x b o (first_named_lem c n) q
    first-right {n} {b} i q l g =
        let (em, r) = has-unless (made (meaning_in c)) (over (row_on rows x k watched) v) q g in
        new_right watched (first_named_lem c n) i first-stands (EntryGives.first em) q l r

    -- the second node of a sequence, come to with code d once the first, begun with entry f, has ended
    second-right : {a b : ℕ} (f d : ℕ) (z : Bool) → Is ns k (sequence a b) → InUse x f → (StaysMade f z → CodeThen c f z (entry_after d z))
        → (q : ℕ) → q < states → has (half z (begun (t o) a f v)) q ≡ true → ComesAt local es ns p x b o (entry_after d z) q
    second-right {a} {b} f d z i u then q l g =
        let (j, lj, hv, ht) = over-found (λ j. get_or (t o) (base a f + j) 0) v (at z q) (has-half z (begun (t o) a f v) q l ∙ g) in
        let la = (targets.sequence i).0 in
        let y = (ends o).sound a f j z q la u lj l ht in
        let later = ends-later (numbers (watched_by x)) (table_lens x) (table-lens asked) y.1 in
        led b o (entry_after d z) q
        (Leads.to_second {h = z} {f = f} i s (h j lj hv) (then later.0) u (la, (lj, (l, ht))))

    seconds-right : {a b : ℕ} → Is ns k (sequence a b) → Each Right (second_arrivals (t o) a b o c v)
    unfolding second_arrivals
    seconds-right {a} {b} i =
        let u = start-in-use asked s in (
          second-right c c false i u CodeThen.as_before,
          (
            second-right c c true i u CodeThen.as_before,
            each-if Right (waits c) (halves b o (in_group_lem 0 c) (begun (t o) a (in_group_lem late_group c) v) []) (λ w.
                let f : (z : Bool) → StaysMade (in_group_lem late_group c) z → CodeThen c (in_group_lem late_group c) z (entry_after (in_group_lem 0 c) z) =
                λ z keep. CodeThen.made_first w (same-stays c late_group keep) in
                let late = waits-late asked s w in (
                  second-right (in_group_lem late_group c) (in_group_lem 0 c) false i late (f false),
                  (second-right (in_group_lem late_group c) (in_group_lem 0 c) true i late (f true), tt),
                )),
          ),
        )

    freshes-right : {n b : ℕ} → Is ns k (fresh n b) → Each Right (fresh_arrivals rows x k n b o c v)
    unfolding fresh_arrivals
    freshes-right {n} {b} i = (
      new_right others (forgotten_in c n) i others-stands EntryGives.other,
      (
        first-right i,
        each-if Right (waits c) (_ ∷ []) (λ w. (new_right watched_too (second_named_lem c n) i second-stands (EntryGives.second w), tt)),
      ),
    )

    inside-right : {r b : ℕ} → Is ns k (sandbox r b) → (q : ℕ) → q < states → has (restarted (is_reset local p r o) v) q ≡ true
        → ComesAt local es ns p x b (o || eqb r p) c q
    inside-right {r} {b} i q l g =
        let (j, lj, hv, e) = restarted-found (is_reset local p r o) v q l g in
        subst (λ (j : ℕ). ComesAt local es ns p x b (o || eqb r p) c j) e
        (led b (o || eqb r p) c (reopened local p r o j) (Leads.to_inner i s (h j lj hv)))

  pub arrivals-right : (k : ℕ) (o : Bool) (c v : ℕ) (f : Form) → Is ns k f → Start x c
      → ((q : ℕ) → q < states → has v q ≡ true → ComesAt local es ns p x k o c q)
      → Each Right (arrivals local rows p x (t o) k o c v f)
  unfolding arrivals
  arrivals-right k o c v end i s h = tt
  arrivals-right k o c v (static_event a r) i s h = tt
  arrivals-right k o c v (named_event a n) i s h = tt
  arrivals-right k o c v (sequence a b) i s h = ((λ q l g. led a o c q (Leads.to_first i s (h q l g))), seconds-right k o c v s h i)
  arrivals-right k o c v (choice a b) i s h =
      ((λ q l g. led a o c q (Leads.to_one i s (h q l g))), ((λ q l g. led b o c q (Leads.to_other i s (h q l g))), tt))
  arrivals-right k o c v (loop a) i s h = ((λ q l g. led a o c q (Leads.to_body i s (h q l g))), tt)
  arrivals-right k o c v (back a) i s h = ((λ q l g. led a o c q (Leads.to_loop i s (h q l g))), tt)
  arrivals-right k o c v (fresh n b) i s h = freshes-right k o c v s h i
  arrivals-right k o c v (sandbox r b) i s h = (inside-right k o c v s h i, tt)

  -- ── A table to which they add nothing ──

  module _ (u : List ℕ) (closed : ClosedComes local ns p x rows t u) where
    -- the two halves of what the first node of a sequence ends in
    half_in : (a : ℕ) (o : Bool) (f v q : ℕ) (z : Bool) (q₁ : ℕ) → q < states → q₁ < states → has v q ≡ true → HasEnd (t o) a f q z q₁
        → has (half z (begun (t o) a f v)) q₁ ≡ true
    half_in a o f v q z q₁ l l₁ e g =
        sym (has-half z (begun (t o) a f v) q₁ l₁) ∙ over-at (λ j. get_or (t o) (base a f + j) 0) v (at z q₁) q l e g

    pick : (b : ℕ) (o : Bool) (d v : ℕ) (rest : List Arrival) (z : Bool) (q : ℕ) → q < states → Each (Entered u) (halves b o d v rest)
        → has (half z v) q ≡ true → HasCome u b o (entry_after d z) q
    pick b o d v rest false q l e g = e.0 q l g
    pick b o d v rest true q l e g = e.1.0 q l g

    second-in : {k a b : ℕ} (o : Bool) (c f : ℕ) (z : Bool) (d q q₁ : ℕ) → Is ns k (sequence a b) → Start x c → q < states → q₁ < states
        → HasCome u k o c q → CodeThen c f z d → HasEnd (t o) a f q z q₁ → HasCome u b o d q₁
    unfolding arrivals second_arrivals
    second-in {k} {a} {b} o c f z d q q₁ i s l l₁ e (CodeThen.as_before keep) g =
        let v = get_or u (place k o c) 0 in
        let more = halves b o (in_group_lem 0 c) (begun (t o) a (in_group_lem late_group c) v) [] in
        pick b o c (begun (t o) a c v) (cond (waits c) more []) z q₁ l₁ (closed.step k o c (sequence a b) i s).1
        (half_in a o c v q z q₁ l l₁ e g)
    second-in {k} {a} {b} o c f z d q q₁ i s l l₁ e (CodeThen.made_first w keep) g =
        let v = get_or u (place k o c) 0 in
        let more = halves b o (in_group_lem 0 c) (begun (t o) a (in_group_lem late_group c) v) [] in
        pick b o (in_group_lem 0 c) (begun (t o) a (in_group_lem late_group c) v) [] z q₁ l₁
        (each-where (Entered u) (waits c) more w (closed.step k o c (sequence a b) i s).1.1.1)
        (half_in a o (in_group_lem late_group c) v q z q₁ l l₁ e g)

    new_in : {k n b : ℕ} (o : Bool) (c r d q q₁ : ℕ) → Is ns k (fresh n b) → Start x c → q < states → q₁ < states
        → HasCome u k o c q → EntryGives waits c n r d → Moves es p create (Sees (watched_by x) r) q q₁ → HasCome u b o d q₁
    unfolding arrivals fresh_arrivals
    new_in {k} {n} {b} o c r d q q₁ i s l l₁ e EntryGives.other m =
        (closed.step k o c (fresh n b) i s).0 q₁ l₁
        (over-at (row_on rows x k others) (get_or u (place k o c) 0) q₁ q l e ((ok.created i others others-stands q q₁ l l₁).1 m))
    new_in {k} {n} {b} o c r d q q₁ i s l l₁ e (EntryGives.first em) m =
        let v = get_or u (place k o c) 0 in
        (closed.step k o c (fresh n b) i s).1.0 q₁ l₁
        (has-where-not (made (meaning_in c)) (over (row_on rows x k watched) v) q₁ em
        (over-at (row_on rows x k watched) v q₁ q l e ((ok.created i watched first-stands q q₁ l l₁).1 m)))
    new_in {k} {n} {b} o c r d q q₁ i s l l₁ e (EntryGives.second w) m =
        (each-where (Entered u) (waits c) (_ ∷ []) w (closed.step k o c (fresh n b) i s).1.1).0 q₁ l₁
        (over-at (row_on rows x k watched_too) (get_or u (place k o c) 0) q₁ q l e ((ok.created i watched_too second-stands q q₁ l l₁).1 m))

    rules-closed : (k : ℕ) (o : Bool) (c q : ℕ) → q < states → Rules (EnteredIn u) k o c q → EnteredIn u k o c q
    unfolding arrivals
    rules-closed k o c q l Leads.begins = (omega arith, (l, closed.begun))
    rules-closed k o c q l (Leads.to_first {k = j} {a = a} {b = b} i s (lk, (l₀, e))) =
        ((targets.sequence i).0, (l, (closed.step j o c (sequence a b) i s).0 q l e))
    rules-closed k o d q l (Leads.to_second {q = q₀} {h = z} {c = c} {f = f} i s (lk, (l₀, e)) then v (la, (l₁, (l₂, y)))) =
        ((targets.sequence i).1, (l, second-in o c f z d q₀ q i s l₀ l e then y))
    rules-closed k o c q l (Leads.to_one {k = j} {a = a} {b = b} i s (lk, (l₀, e))) =
        ((targets.choice i).0, (l, (closed.step j o c (choice a b) i s).0 q l e))
    rules-closed k o c q l (Leads.to_other {k = j} {a = a} {b = b} i s (lk, (l₀, e))) =
        ((targets.choice i).1, (l, (closed.step j o c (choice a b) i s).1.0 q l e))
    rules-closed k o c q l (Leads.to_body {k = j} {a = a} i s (lk, (l₀, e))) = (targets.loop i, (l, (closed.step j o c (loop a) i s).0 q l e))
    rules-closed k o c q l (Leads.to_loop {k = j} {a = a} i s (lk, (l₀, e))) = (targets.back i, (l, (closed.step j o c (back a) i s).0 q l e))
    rules-closed k o d q l (Leads.to_new {r = r} {q = q₀} {c = c} i s (lk, (l₀, e)) gives v) =
        (targets.fresh i, (l, new_in o c r d q₀ q i s l₀ l e gives v))
    rules-closed k o c q l (Leads.to_inner {k = j} {s = r} {b = b} {q = q₀} {o = a} i s (lk, (l₀, e))) = (
      targets.sandbox i,
      (
        l,
        (closed.step j a c (sandbox r b) i s).0 (reopened local p r a q₀) l
            (restarted-at (is_reset local p r a) (get_or u (place j a c) 0) q₀ l₀ e),
      ),
    )

  -- a sound table to which the rules add nothing holds exactly what is come to
  pub holds-comes : EdgesOk es → (u : List ℕ) → ClosedComes local ns p x rows t u → SoundComes local es ns p x u
      → HoldsComes local es ns p x u
  holds-comes edges u closed sound = record {
    sound = sound;
    full = λ c.
        let h =
        (closed-come local es ns p (numbers (watched_by x)) (table_lens x) (table_codes x) (table-lens asked) (table-codes asked) names
        (λ o. Held (t o)) (EnteredIn u) edges ends-whole (rules-closed u closed)).full c in
        record {
          code = h.code;
          start = h.occurs;
          names = h.named;
          made = h.kept;
          node = h.entered.0;
          state = h.state;
          entered = h.entered.1.1;
        };
  }
