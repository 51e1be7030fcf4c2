-- The table of ends: what the rules add to a sound table are ends, and a table to which they add nothing has every end.
use Prim.Native.Nat.{ℕ, ◌+◌, ◌^◌, ◌<◌, ◌≤◌}
use mathlib.Core.Path.{◌≡◌, refl, sym, ap, ◌∙◌, subst}
use mathlib.Core.Bool.{Bool, true, false, ◌&&◌, cond}
use mathlib.Core.List.{List}
use mathlib.Core.Logic.{◌⊎◌, inl, inr, ◌↔◌}
use native.Mathlib.Omega.{arith}
use lib.Dec.{eqb}
use lib.Bits.{bit_or}
use lib.ListN.{get_or}
use borrow.Author.Tests.{eqb-true, eq-eqb}
use Rattle.usage.specs.declared.Edge.{Edge}
use Rattle.usage.specs.declared.Node.{Node}
use Rattle.usage.specs.Limits.{create, states, most_nodes}
use Rattle.usage.specs.Policy.{Sees, Moves, EdgesOk}
use Rattle.usage.proofs.Logic.{and-false, false-true}
use Rattle.usage.specs.Outline.{Form, Is, end, static_event, named_event, sequence, choice, loop, back, fresh, sandbox}
use Rattle.automaton.specs.Mask.{has}
use Rattle.automaton.proofs.MaskLaws.{has-pow}
use Rattle.checker_account.specs.Account.{watched, watched_too, others}
use Rattle.checker_account.specs.Pairs.{which, numbers}
use Rattle.checker_account.specs.declared.Resources.{Resources}
use Rattle.checker_account.specs.Tables.{watched_by, made, meaning_in, group_in, waiting_group, late_group, is_late_lem, in_group_lem, forgotten_in}
use Rattle.checker_account.specs.Tables.{first_named_lem, second_named_lem, entry_after, meant_at, at, half, base}
use Rattle.checker_account.specs.Tables.{begun, Rows, row_on, Resets, never, opening_of}
use Rattle.checker_account.specs.Tables.{is_reset, inside_ends_lem, in_turn, sequence_ends_lem, fresh_ends_lem, ends_by_lem}
use Rattle.checker_account.specs.Filling.{Asked}
use Rattle.checker_account.specs.Holds.{InUse, names_in, StaysMade, EntrySplits, EntryGives, table_lens, StandsFor, RowsOk, NamesOk}
use Rattle.checker_account.specs.Holds.{TargetsOk, EndsAt, HasEnd, SoundEnds, ClosedEnds, HoldsEnds}
use Rattle.checker_account.specs.Holds.{ResetsOk, where_open, where_not}
use Rattle.checker_account.proofs.MaskLaws.{has_left, has_right, has_either, over-found, over-at, has-half, kept-in-found}
use Rattle.checker_account.proofs.MaskLaws.{kept-in-at, has-if, has-unless, has-where, has-where-not}
use Rattle.checker_account.specs.Lens.{EndTable, Adds}
use Rattle.checker_account.proofs.LensEnds.{Served, Sound, Whole, ends-later, adds-sound, closed-whole}
use Rattle.checker_account.proofs.EntryLaws.{same-stays, meant-which, meant-stands, in-use-fits}
use Rattle.checker_account.proofs.TableLens.{table-lens, late-waiting}

module _ (es : List Edge) (ns : List Node) (p : ℕ) (x : Resources) (rows : Rows) (ok : RowsOk es ns p x rows) (names : NamesOk ns) where
  -- the move of a node's event on a name, and of its row
  pub name-moves : {k a n : ℕ} (e q q' : ℕ) → Is ns k (named_event a n) → group_in e ≤ late_group → q < states → q' < states
      → (has (row_on rows x k (meant_at e n) q) q' ≡ true) ↔ Moves es p a (Sees (watched_by x) (which (names_in e) n)) q q'
  name-moves {a = a} {n = n} e q q' i s l l' =
      let d = meant-which e n s (names.used i) in
      let h = ok.name i (meant_at e n) (meant-stands e n) q q' l l' in (
        λ b. subst (λ (r : ℕ). Moves es p a (Sees (watched_by x) r) q q') (sym d) (h.0 b),
        λ v. h.1 (subst (λ (r : ℕ). Moves es p a (Sees (watched_by x) r) q q') d v),
      )

-- the stand-ins that are created
pub others-stands : StandsFor others
others-stands = (omega arith, omega arith)

pub first-stands : StandsFor watched
first-stands = (omega arith, omega arith)

pub second-stands : StandsFor watched_too
second-stands = (omega arith, omega arith)

-- ── Through the lens ──

-- the ends that a table has, of the nodes and states that there are
abbrev pub Held : List ℕ → EndTable ℕ
Held t k e q h q' = (k < most_nodes) × ((q < states) × ((q' < states) × HasEnd t k e q h q'))

-- the table where p is open, where an opening resets
abbrev opened_in : Resets → EndTable ℕ
opened_in never k m q c q' = ⊥
opened_in (opening_of p opened) k m q c q' = Held opened k m q c q'

reset-open : (local : Bool) (p r : ℕ) → is_reset local p r true ≡ false
reset-open true p r = and-false (eqb r p) false refl
reset-open false p r = refl

reset-shut : (p r : ℕ) → is_reset true p r false ≡ eqb r p
reset-shut p r = go (eqb r p)
  where
    go : (b : Bool) → (b && true) ≡ b
    go true = refl
    go false = refl

resets-served : {es : List Edge} {ns : List Node} {p : ℕ} {x : Resources} {local o : Bool} {resets : Resets} → ResetsOk es ns p x local o resets
    → Served local o
resets-served where_open = inl refl
resets-served (where_not h) = inr refl

module _ (local : Bool) (es : List Edge) (ns : List Node) (p : ℕ) (x : Resources) {pair : Bool} (asked : Asked pair x) (o : Bool) (rows : Rows)
    (ok : RowsOk es ns p x rows) (names : NamesOk ns) (targets : TargetsOk ns) (resets : Resets)
    (right : ResetsOk es ns p x local o resets) where
  abbrev Rules : List ℕ → EndTable ℕ
  Rules t = Adds es ns p (numbers (watched_by x)) (table_lens x) (λ r. is_reset local p r o) (opened_in resets) (Held t)

  held-sound : (local o : Bool) (t : List ℕ) → SoundEnds local es ns p x o t → Sound local es ns p (numbers (watched_by x)) (table_lens x) o (Held t)
  held-sound local o t sound k m q c q' s (lk, (l, (l', h))) = sound k m q c q' lk s l l' h

  opened-sound : {local o : Bool} {resets : Resets} → ResetsOk es ns p x local o resets → (r : ℕ) → is_reset local p r o ≡ true
      → Sound local es ns p (numbers (watched_by x)) (table_lens x) true (opened_in resets)
  opened-sound (where_open {local = local}) r e = false-true (sym (reset-open local p r) ∙ e)
  opened-sound (where_not {opened = opened} holds) r e = held-sound true true opened holds.sound

  opened-whole : {local o : Bool} {resets : Resets} → ResetsOk es ns p x local o resets → (r : ℕ) → is_reset local p r o ≡ true
      → Whole local es ns p (numbers (watched_by x)) (table_lens x) true (opened_in resets)
  opened-whole (where_open {local = local}) r e = false-true (sym (reset-open local p r) ∙ e)
  opened-whole (where_not holds) r e = λ k m q c q' s l f. let (lk, (l', h)) = holds.full k m q c q' s l f in (l', (lk, (l, (l', h))))

  -- ── What the sets say is what the rules add ──

  inside-adds : {local o : Bool} {resets : Resets} → ResetsOk es ns p x local o resets → (t : List ℕ) {k r b : ℕ} (m q : ℕ) (c : Bool)
      (q' : ℕ) → q < states → q' < states → Is ns k (sandbox r b) → has (inside_ends_lem resets t r b m q) (at c q') ≡ true
      → Adds es ns p (numbers (watched_by x)) (table_lens x) (λ r. is_reset local p r o) (opened_in resets) (Held t) k m q c q'
  inside-adds (where_open {local = local}) t {r = r} m q c q' l l' i h = Adds.by_inner i (reset-open local p r) (targets.sandbox i, (l, (l', h)))
  inside-adds (where_not {opened = opened} holds) t {k} {r} {b} m q c q' l l' i h = go (eqb r p) refl h
    where
      go : (d : Bool) → eqb r p ≡ d → has (cond d (get_or opened (base b m + 0) 0) (get_or t (base b m + q) 0)) (at c q') ≡ true
          → Adds es ns p (numbers (watched_by x)) (table_lens x) (λ r. is_reset true p r false) (opened_in (opening_of p opened)) (Held t) k m q c q'
      go true e h = Adds.by_reset i (reset-shut p r ∙ e) (targets.sandbox i, (omega arith, (l', h)))
      go false e h = Adds.by_inner i (reset-shut p r ∙ e) (targets.sandbox i, (l, (l', h)))

  module _ (t : List ℕ) (sound : SoundEnds local es ns p x o t) where
    -- a sequence whose first node, begun with entry f, ends in half d, and whose second is begun with entry g
    sequence-adds : {k a b : ℕ} (e f g q : ℕ) (h : Bool) (q' : ℕ) (d : Bool) → InUse x f → q < states → q' < states → Is ns k (sequence a b)
        → (StaysMade f d → EntrySplits e f d (entry_after g d))
        → has (begun t b (entry_after g d) (half d (get_or t (base a f + q) 0))) (at h q') ≡ true → Rules t k e q h q'
    sequence-adds {a = a} {b = b} e f g q h q' d u l l' i splits s =
        let v = get_or t (base a f + q) 0 in
        let (j, lj, hv, ht) = over-found (λ j. get_or t (base b (entry_after g d) + j) 0) (half d v) (at h q') s in
        let r : HasEnd t a f q d j = has-half d v j lj ∙ hv in
        let (la, lb) = targets.sequence i in
        let y : EndsAt local es ns p x o a f q d j = sound a f q d j la u l lj r in
        let later = ends-later (numbers (watched_by x)) (table_lens x) (table-lens asked) y.1 in
        Adds.is_in_turn {f = f} {g = entry_after g d} i (splits later.0) (la, (l, (lj, r))) (lb, (lj, (l', ht)))

    turn-adds : {k a b : ℕ} (e f g q : ℕ) (h : Bool) (q' : ℕ) → InUse x f → q < states → q' < states → Is ns k (sequence a b)
        → ((d : Bool) → StaysMade f d → EntrySplits e f d (entry_after g d))
        → has (in_turn t a b f g q) (at h q') ≡ true → Rules t k e q h q'
    turn-adds {k} {a} {b} e f g q h q' u l l' i splits s = go (has_either _ _ (at h q') s)
      where
        v : ℕ
        v = get_or t (base a f + q) 0

        go : (has (begun t b (entry_after g false) (half false v)) (at h q') ≡ true)
            ⊎ (has (begun t b (entry_after g true) (half true v)) (at h q') ≡ true)
            → Rules t k e q h q'
        go (inl r) = sequence-adds e f g q h q' false u l l' i (splits false) r
        go (inr r) = sequence-adds e f g q h q' true u l l' i (splits true) r

    sequences-add : {k a b : ℕ} (e q : ℕ) (h : Bool) (q' : ℕ) → InUse x e → q < states → q' < states → Is ns k (sequence a b)
        → has (sequence_ends_lem t a b e q) (at h q') ≡ true → Rules t k e q h q'
    unfolding sequence_ends_lem
    sequences-add {k} {a} {b} e q h q' u l l' i s = go (is_late_lem e) refl s
      where
        two : is_late_lem e ≡ true
            → (has (in_turn t a b (in_group_lem waiting_group e) e q) (at h q') ≡ true) ⊎ (has (in_turn t a b e (in_group_lem 0 e) q) (at h q') ≡ true)
            → Rules t k e q h q'
        two late (inl r) =
            turn-adds e (in_group_lem waiting_group e) e q h q' (late-waiting asked u late) l l' i
            (λ d keep. EntrySplits.made_second late (same-stays e waiting_group keep)) r
        two late (inr r) = turn-adds e e (in_group_lem 0 e) q h q' u l l' i (λ d keep. EntrySplits.made_first late keep) r

        go : (z : Bool) → is_late_lem e ≡ z
            → has (cond z (bit_or (in_turn t a b (in_group_lem waiting_group e) e q) (in_turn t a b e (in_group_lem 0 e) q)) (in_turn t a b e e q)) (at h q')
            ≡ true → Rules t k e q h q'
        go true late r = two late (has_either _ _ (at h q') r)
        go false late r = turn-adds e e e q h q' u l l' i (λ d keep. EntrySplits.is_in_turn late keep) r

    -- a fresh node, by the creation of d
    new-adds : {k n b : ℕ} (e q : ℕ) (h : Bool) (q' d g : ℕ) → q < states → q' < states → Is ns k (fresh n b) → StandsFor d
        → EntryGives is_late_lem e n d g → has (begun t b g (row_on rows x k d q)) (at h q') ≡ true → Rules t k e q h q'
    new-adds {k} {n} {b} e q h q' d g l l' i stands gives s =
        let (j, lj, hv, ht) = over-found (λ j. get_or t (base b g + j) 0) (row_on rows x k d q) (at h q') s in
        Adds.by_new {d = d} {g = g} i gives ((ok.created i d stands q j l lj).0 hv) (targets.fresh i, (lj, (l', ht)))

    fresh-adds : {k n b : ℕ} (e q : ℕ) (h : Bool) (q' : ℕ) → q < states → q' < states → Is ns k (fresh n b)
        → has (fresh_ends_lem rows x t k n b e q) (at h q') ≡ true → Rules t k e q h q'
    unfolding fresh_ends_lem
    fresh-adds {k} {n} {b} e q h q' l l' i s = go (has_either _ _ (at h q') s)
      where
        low : (has (begun t b (forgotten_in e n) (row_on rows x k others q)) (at h q') ≡ true)
            ⊎ (has (cond (made (meaning_in e)) 0 (begun t b (first_named_lem e n) (row_on rows x k watched q))) (at h q') ≡ true)
            → Rules t k e q h q'
        low (inl r) = new-adds e q h q' others (forgotten_in e n) l l' i others-stands EntryGives.other r
        low (inr r) =
            let (em, r₁) = has-unless (made (meaning_in e)) (begun t b (first_named_lem e n) (row_on rows x k watched q)) (at h q') r in
            new-adds e q h q' watched (first_named_lem e n) l l' i first-stands (EntryGives.first em) r₁

        go : (has (bit_or (begun t b (forgotten_in e n) (row_on rows x k others q))
            (cond (made (meaning_in e)) 0 (begun t b (first_named_lem e n) (row_on rows x k watched q)))) (at h q') ≡ true)
            ⊎ (has (cond (is_late_lem e) (begun t b (second_named_lem e n) (row_on rows x k watched_too q)) 0) (at h q') ≡ true)
            → Rules t k e q h q'
        go (inl r) = low (has_either _ _ (at h q') r)
        go (inr r) =
            let (late, r₁) = has-if (is_late_lem e) (begun t b (second_named_lem e n) (row_on rows x k watched_too q)) (at h q') r in
            new-adds e q h q' watched_too (second_named_lem e n) l l' i second-stands (EntryGives.second late) r₁

    rule-adds : (k e q : ℕ) (f : Form) → Is ns k f → InUse x e → q < states → (h : Bool) (q' : ℕ) → q' < states
        → has (ends_by_lem rows x resets t k e q f) (at h q') ≡ true → Rules t k e q h q'
    unfolding ends_by_lem
    rule-adds k e q end i u l h q' l' s =
        let (still, g) = kept-in-found e (2 ^ q) h q' l' s in
        let f : q ≡ q' = eqb-true q q' (sym (has-pow q q' l l') ∙ g) in
        subst (λ (r : ℕ). Rules t k e q h r) f (Adds.at_end i still)
    rule-adds k e q (static_event a r) i u l h q' l' s =
        let (still, g) = kept-in-found e (row_on rows x k r q) h q' l' s in Adds.at_static i still ((ok.static i q q' l l').0 g)
    rule-adds k e q (named_event a n) i u l h q' l' s =
        let (still, g) = kept-in-found e (row_on rows x k (meant_at e n) q) h q' l' s in
        Adds.at_name i still ((name-moves es ns p x rows ok names e q q' i (in-use-fits asked u).group l l').0 g)
    rule-adds k e q (sequence a b) i u l h q' l' s = sequences-add e q h q' u l l' i s
    rule-adds k e q (choice a b) i u l h q' l' s = go (has_either _ _ (at h q') s)
      where
        go : HasEnd t a e q h q' ⊎ HasEnd t b e q h q' → Rules t k e q h q'
        go (inl g) = Adds.by_one i ((targets.choice i).0, (l, (l', g)))
        go (inr g) = Adds.by_other i ((targets.choice i).1, (l, (l', g)))
    rule-adds k e q (loop a) i u l h q' l' s = Adds.by_body i (targets.loop i, (l, (l', s)))
    rule-adds k e q (back a) i u l h q' l' s = Adds.by_loop i (targets.back i, (l, (l', s)))
    rule-adds k e q (fresh n b) i u l h q' l' s = fresh-adds e q h q' l l' i s
    rule-adds k e q (sandbox r b) i u l h q' l' s = inside-adds right t e q h q' l l' i s

    pub rule-sound : (k m q : ℕ) (f : Form) → Is ns k f → InUse x m → q < states → (c : Bool) (q' : ℕ) → q' < states
        → has (ends_by_lem rows x resets t k m q f) (at c q') ≡ true → EndsAt local es ns p x o k m q c q'
    rule-sound k m q f i s l c q' l' h =
        adds-sound local es ns p (numbers (watched_by x)) (table_lens x) (table-lens asked) names o (resets-served right) (opened_in resets) (Held t)
        (opened-sound right) (held-sound local o t sound) k m q c q' s (rule-adds k m q f i s l c q' l' h)

  -- ── And what the rules add is in the sets ──

  inside-added : {local o : Bool} {resets : Resets} → ResetsOk es ns p x local o resets → (t : List ℕ) (r b m q : ℕ) (c : Bool) (q' : ℕ)
      → is_reset local p r o ≡ false → HasEnd t b m q c q' → has (inside_ends_lem resets t r b m q) (at c q') ≡ true
  inside-added where_open t r b m q c q' e h = h
  inside-added (where_not {opened = opened} holds) t r b m q c q' e h =
      ap (λ (d : Bool). has (cond d (get_or opened (base b m + 0) 0) (get_or t (base b m + q) 0)) (at c q')) (sym (reset-shut p r) ∙ e) ∙ h

  reset-added : {local o : Bool} {resets : Resets} → ResetsOk es ns p x local o resets → (t : List ℕ) (r b m q : ℕ) (c : Bool) (q' : ℕ)
      → is_reset local p r o ≡ true → opened_in resets b m 0 c q' → has (inside_ends_lem resets t r b m q) (at c q') ≡ true
  reset-added where_open t r b m q c q' e h = absurd h
  reset-added (where_not {opened = opened} holds) t r b m q c q' e (lk, (l, (l', h))) =
      ap (λ (d : Bool). has (cond d (get_or opened (base b m + 0) 0) (get_or t (base b m + q) 0)) (at c q')) (sym (reset-shut p r) ∙ e) ∙ h

  module _ (t : List ℕ) where
    begun-at : (b m v d j : ℕ) → j < states → has v j ≡ true → has (get_or t (base b m + j) 0) d ≡ true → has (begun t b m v) d ≡ true
    begun-at b m v d j l h g = over-at (λ j. get_or t (base b m + j) 0) v d j l h g

    -- a sequence, whose first node ends in half d
    in_turns : (a b f g q : ℕ) (d : Bool) (j : ℕ) (h : Bool) (q' : ℕ) → j < states → HasEnd t a f q d j
        → HasEnd t b (entry_after g d) j h q' → has (in_turn t a b f g q) (at h q') ≡ true
    in_turns a b f g q d j h q' lj r s =
        go d (begun-at b (entry_after g d) (half d v) (at h q') j lj (sym (has-half d v j lj) ∙ r) s)
      where
        v : ℕ
        v = get_or t (base a f + q) 0

        go : (d : Bool) → has (begun t b (entry_after g d) (half d v)) (at h q') ≡ true → has (in_turn t a b f g q) (at h q') ≡ true
        go false r = has_left (begun t b (entry_after g false) (half false v)) (begun t b (entry_after g true) (half true v)) (at h q') r
        go true r = has_right (begun t b (entry_after g false) (half false v)) (begun t b (entry_after g true) (half true v)) (at h q') r

    in-sequence : (a b e f : ℕ) (d : Bool) (g q j : ℕ) (h : Bool) (q' : ℕ) → j < states → EntrySplits e f d g → HasEnd t a f q d j
        → HasEnd t b g j h q' → has (sequence_ends_lem t a b e q) (at h q') ≡ true
    unfolding sequence_ends_lem
    in-sequence a b e f d g q j h q' lj (EntrySplits.is_in_turn late keep) r s =
        ap (λ (z : Bool). has (cond z (bit_or (in_turn t a b (in_group_lem waiting_group e) e q) (in_turn t a b e (in_group_lem 0 e) q))
        (in_turn t a b e e q)) (at h q')) late
        ∙ in_turns a b e e q d j h q' lj r s
    in-sequence a b e f d g q j h q' lj (EntrySplits.made_second late keep) r s =
        ap (λ (z : Bool). has (cond z (bit_or (in_turn t a b (in_group_lem waiting_group e) e q) (in_turn t a b e (in_group_lem 0 e) q))
        (in_turn t a b e e q)) (at h q')) late
        ∙ has_left (in_turn t a b (in_group_lem waiting_group e) e q) (in_turn t a b e (in_group_lem 0 e) q) (at h q')
        (in_turns a b (in_group_lem waiting_group e) e q d j h q' lj r s)
    in-sequence a b e f d g q j h q' lj (EntrySplits.made_first late keep) r s =
        ap (λ (z : Bool). has (cond z (bit_or (in_turn t a b (in_group_lem waiting_group e) e q) (in_turn t a b e (in_group_lem 0 e) q))
        (in_turn t a b e e q)) (at h q')) late
        ∙ has_right (in_turn t a b (in_group_lem waiting_group e) e q) (in_turn t a b e (in_group_lem 0 e) q) (at h q')
        (in_turns a b e (in_group_lem 0 e) q d j h q' lj r s)

    new_in : (e : ℕ) {k n b d g q₁ : ℕ} (q : ℕ) (h : Bool) (q' : ℕ) → Is ns k (fresh n b) → q < states
        → EntryGives is_late_lem e n d g → Moves es p create (Sees (watched_by x) d) q q₁ → Held t b g q₁ h q'
        → has (fresh_ends_lem rows x t k n b e q) (at h q') ≡ true
    unfolding fresh_ends_lem
    new_in e {k} {n} {b} {d} {g} {q₁} q h q' i l EntryGives.other v (lk, (l₁, (l', s))) =
        let r = (ok.created i others others-stands q q₁ l l₁).1 v in
        let a = begun-at b (forgotten_in e n) (row_on rows x k others q) (at h q') q₁ l₁ r s in
        has_left _ _ (at h q') (has_left _ _ (at h q') a)
    new_in e {k} {n} {b} {d} {g} {q₁} q h q' i l (EntryGives.first em) v (lk, (l₁, (l', s))) =
        let r = (ok.created i watched first-stands q q₁ l l₁).1 v in
        let a = begun-at b (first_named_lem e n) (row_on rows x k watched q) (at h q') q₁ l₁ r s in
        let a₁ = has-where-not (made (meaning_in e)) (begun t b (first_named_lem e n) (row_on rows x k watched q)) (at h q') em a in
        has_left _ _ (at h q')
        (has_right (begun t b (forgotten_in e n) (row_on rows x k others q))
        (cond (made (meaning_in e)) 0 (begun t b (first_named_lem e n) (row_on rows x k watched q))) (at h q') a₁)
    new_in e {k} {n} {b} {d} {g} {q₁} q h q' i l (EntryGives.second late) v (lk, (l₁, (l', s))) =
        let r = (ok.created i watched_too second-stands q q₁ l l₁).1 v in
        let a = begun-at b (second_named_lem e n) (row_on rows x k watched_too q) (at h q') q₁ l₁ r s in
        let a₁ = has-where (is_late_lem e) (begun t b (second_named_lem e n) (row_on rows x k watched_too q)) (at h q') late a in
        has_right
        (bit_or (begun t b (forgotten_in e n) (row_on rows x k others q))
        (cond (made (meaning_in e)) 0 (begun t b (first_named_lem e n) (row_on rows x k watched q))))
        (cond (is_late_lem e) (begun t b (second_named_lem e n) (row_on rows x k watched_too q)) 0) (at h q') a₁

    module _ (closed : ClosedEnds ns x rows resets t) where
      rules-closed : (k e q : ℕ) (h : Bool) (q' : ℕ) → InUse x e → q < states → q' < states → Rules t k e q h q' → Held t k e q h q'
      unfolding ends_by_lem
      rules-closed k e q h q' u l l' (Adds.at_end i still) =
          (targets.own i, (l, (l', closed k e q end i u l h q l' (kept-in-at e (2 ^ q) h q l' still (has-pow q q l l ∙ eq-eqb q q refl)))))
      rules-closed k e q h q' u l l' (Adds.at_static {a = a} {s = r} i still v) =
          let v₁ = (ok.static i q q' l l').1 v in
          (targets.own i, (l, (l', closed k e q (static_event a r) i u l h q' l' (kept-in-at e (row_on rows x k r q) h q' l' still v₁))))
      rules-closed k e q h q' u l l' (Adds.at_name {a = a} {n = n} i still v) =
          let v₁ = (name-moves es ns p x rows ok names e q q' i (in-use-fits asked u).group l l').1 v in
          (targets.own i, (l, (l', closed k e q (named_event a n) i u l h q' l' (kept-in-at e (row_on rows x k (meant_at e n) q) h q' l' still v₁))))
      rules-closed k e q h q' u l l'
          (Adds.is_in_turn {a = a} {b = b} {q₁ = j} {f = f} {g = g} {d = d} i splits (la, (l₁, (lj, r))) (lb, (l₂, (l₃, s)))) =
          (targets.own i, (l, (l', closed k e q (sequence a b) i u l h q' l' (in-sequence a b e f d g q j h q' lj splits r s))))
      rules-closed k m q c q' s l l' (Adds.by_one {a = a} {b = b} i (lk, (l₁, (l₂, h)))) =
          (targets.own i, (l, (l', closed k m q (choice a b) i s l c q' l' (has_left _ _ (at c q') h))))
      rules-closed k m q c q' s l l' (Adds.by_other {a = a} {b = b} i (lk, (l₁, (l₂, h)))) =
          (targets.own i, (l, (l', closed k m q (choice a b) i s l c q' l' (has_right (get_or t (base a m + q) 0) (get_or t (base b m + q) 0) (at c q') h))))
      rules-closed k m q c q' s l l' (Adds.by_body {a = a} i (lk, (l₁, (l₂, h)))) = (targets.own i, (l, (l', closed k m q (loop a) i s l c q' l' h)))
      rules-closed k m q c q' s l l' (Adds.by_loop {a = a} i (lk, (l₁, (l₂, h)))) = (targets.own i, (l, (l', closed k m q (back a) i s l c q' l' h)))
      rules-closed k m q c q' s l l' (Adds.by_new {n = n} {b = b} i g v h) =
          (targets.own i, (l, (l', closed k m q (fresh n b) i s l c q' l' (new_in m q c q' i l g v h))))
      rules-closed k m q c q' s l l' (Adds.by_inner {s = r} {b = b} i e (lk, (l₁, (l₂, h)))) =
          (targets.own i, (l, (l', closed k m q (sandbox r b) i s l c q' l' (inside-added right t r b m q c q' e h))))
      rules-closed k m q c q' s l l' (Adds.by_reset {s = r} {b = b} i e h) =
          (targets.own i, (l, (l', closed k m q (sandbox r b) i s l c q' l' (reset-added right t r b m q c q' e h))))

  -- a sound table to which the rules add nothing holds exactly the ends
  pub holds-ends : EdgesOk es → (t : List ℕ) → ClosedEnds ns x rows resets t → SoundEnds local es ns p x o t → HoldsEnds local es ns p x o t
  holds-ends edges t closed sound = record {
    sound = sound;
    full = λ k m q c q' s l e.
        let (l', h) =
        closed-whole local es ns p (numbers (watched_by x)) (table_lens x) (table-lens asked) names o (resets-served right) (opened_in resets) (Held t) edges
        (opened-whole right) (rules-closed t closed) k m q c q' s l e in
        (h.0, (l', h.1.1.1));
  }
