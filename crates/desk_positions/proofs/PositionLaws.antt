-- The positions that are listed are exactly the lists of parts that runs with the steps so far can hold, or a limit is exceeded.
use Prim.Native.Nat.{ℕ, zero, suc, ◌<◌, ◌≤◌}
use mathlib.Core.Path.{◌≡◌, refl, sym, ap, ap₂, ◌∙◌, subst, fun_ext}
use mathlib.Core.Bool.{Bool, true, false, not, ◌&&◌}
use mathlib.Core.Option.{Option, none, some, some-injective}
use mathlib.Core.List.Memᴰ
use mathlib.Core.List.{List, [], ◌∷◌, map, Memᴰ}
use mathlib.Core.Logic.{◌⊎◌, inl, inr}
use native.Mathlib.Omega.{arith}
use lib.Dec.{eqb, leb}
use lib.ListN.{length, get_or, set, length-set, length-map}
use lib.Seq.{get_or-set_same, get_or-set_other, ext_get_or}
use borrow.Author.Tests.{eq-eqb, ne_eqb, eqb-true, eqb-false, leb-true, leb-false, le-leb}
use Rattle.usage.specs.declared.Node.{Node}
use Rattle.usage.specs.Limits.{statics, create, most_names}
use Rattle.usage.specs.Past.{Step, event, opening, closing, retiring, Past}
use Rattle.usage.specs.Outline.{Form, end, static_event, named_event, sequence, choice, loop, back, fresh, sandbox, form_at, Is}
use Rattle.usage.specs.Outline.{Names, no_names, give, Part, node, close, Run, start_run, Runs, started, moved, IsTrace}
use Rattle.usage.specs.Outline as outline
use Rattle.usage.specs.Tests.{Decides}
use Rattle.usage.specs.Valid.{OutlineOk}
use Rattle.usage.proofs.Logic.{by_cases, clash, none-some, false-true, and_left, and_right, and_both}
use Rattle.usage.proofs.FormLaws.{form-ok}
use Rattle.usage.proofs.TraceLaws.{give-same, give-other}
use Rattle.desk_positions.specs.Positions.{most_positions, most_parts, Held, Exceeds, too_many, too_long, Meanings, meaning_of, names_in}
use Rattle.desk_positions.specs.Positions.{nothing_meant, Item, at, shut, Position, part_of, parts_of, ItemOk, PositionOk, same_meanings}
use Rattle.desk_positions.specs.Positions.{same_item, same_position, silent_by, silent_next, on_closing, if, means}
use Rattle.desk_positions.specs.Positions.{stride_by, stride_next, Fresh, short, stride_all, settled_from, start_position, start_positions}
use Rattle.desk_positions.specs.Positions.{next_positions, Lists, Told}
use Rattle.desk_positions.proofs.ClosureLaws.{at_most, different-map, All, Beyond, many, large, Spreads, reached-is}

-- ── The tests ──

nil-cons : {A B : Type 0} {x : A} {l : List A} → ◌≡◌ {A = List A} [] (x ∷ l) → B
nil-cons e = clash (ap heads e)
  where
    heads : {A : Type 0} → List A → ℕ
    heads [] = 0
    heads (x ∷ l) = 1

pub same-meanings : (l m : Meanings) → Decides (same_meanings l m) (l ≡ m)
unfolding same_meanings
same-meanings [] [] = (λ e. refl, λ e. refl)
same-meanings [] (s ∷ m) = (λ e. false-true e, λ e. nil-cons e)
same-meanings (r ∷ l) [] = (λ e. false-true e, λ e. nil-cons (sym e))
same-meanings (r ∷ l) (s ∷ m) = (
  λ e. ap₂ (λ (x : ℕ) (y : Meanings). x ∷ y) (eqb-true r s (and_left (eqb r s) (same_meanings l m) e))
      ((same-meanings l m).0 (and_right (eqb r s) (same_meanings l m) e)),
  λ e. and_both (eqb r s) (same_meanings l m) (eq-eqb r s (cc)) ((same-meanings l m).1 (cc)),
)

same_item_lem : (i j : Item) → Decides (same_item i j) (i ≡ j)
same_item_lem (at k l) (at j m) = (
  λ e. ap₂ at (eqb-true k j (and_left (eqb k j) (same_meanings l m) e)) ((same-meanings l m).0 (and_right (eqb k j) (same_meanings l m) e)),
  λ e. and_both (eqb k j) (same_meanings l m) (eq-eqb k j (cc)) ((same-meanings l m).1 (cc)),
)
same_item_lem (at k l) (shut p) = (λ e. false-true e, λ e. clash (cc))
same_item_lem (shut p) (at k l) = (λ e. false-true e, λ e. clash (cc))
same_item_lem (shut p) (shut s) = (λ e. ap shut (eqb-true p s e), λ e. eq-eqb p s (cc))

pub same-position : (c d : Position) → Decides (same_position c d) (c ≡ d)
unfolding same_position
same-position [] [] = (λ e. refl, λ e. refl)
same-position [] (j ∷ d) = (λ e. false-true e, λ e. nil-cons e)
same-position (i ∷ c) [] = (λ e. false-true e, λ e. nil-cons (sym e))
same-position (i ∷ c) (j ∷ d) = (
  λ e. ap₂ (λ (x : Item) (y : Position). x ∷ y) ((same_item_lem i j).0 (and_left (same_item i j) (same_position c d) e))
      ((same-position c d).0 (and_right (same_item i j) (same_position c d) e)),
  λ e. and_both (same_item i j) (same_position c d) ((same_item_lem i j).1 (cc)) ((same-position c d).1 (cc)),
)

-- ── What names mean ──

meaning-some : (r : ℕ) → 1 ≤ r → meaning_of r ≡ some r
meaning-some zero h = absurd (omega arith)
meaning-some (suc r) h = refl

meaning-is : (v r : ℕ) → meaning_of v ≡ some r → (v ≡ r) × (1 ≤ r)
meaning-is zero r e = none-some e
meaning-is (suc v) r e = let f : suc v ≡ r = some-injective _ _ e in (f, omega arith)

meaning-same : (a b : ℕ) → meaning_of a ≡ meaning_of b → a ≡ b
meaning-same zero zero e = refl
meaning-same zero (suc b) e = none-some e
meaning-same (suc a) zero e = none-some (sym e)
meaning-same (suc a) (suc b) e = some-injective _ _ e

given_is : (l : Meanings) (n r : ℕ) → n < length l → 1 ≤ r → give (names_in l) n r ≡ names_in (set l n r)
given_is l n r h k = fun_ext (λ m. at_name m (eqb m n) refl)
  where
    at_name : (m : ℕ) (t : Bool) → eqb m n ≡ t → give (names_in l) n r m ≡ names_in (set l n r) m
    at_name m true e =
        let f : m ≡ n = eqb-true m n e in
        give-same (names_in l) n r m f ∙ sym (meaning-some r k)
        ∙ ap meaning_of (sym (get_or-set_same l n r 0 h) ∙ ap (λ (j : ℕ). get_or (set l n r) j 0) (sym f))
    at_name m false e =
        let d = eqb-false m n e in
        give-other (names_in l) n r m d ∙ ap meaning_of (sym (get_or-set_other l n m r 0 d))

nothing_is : names_in nothing_meant ≡ no_names
nothing_is = fun_ext none-at
  where
    none-at : (n : ℕ) → names_in nothing_meant n ≡ none
    none-at zero = refl
    none-at (suc zero) = refl
    none-at (suc (suc zero)) = refl
    none-at (suc (suc (suc zero))) = refl
    none-at (suc (suc (suc (suc n)))) = refl

names_same : (l m : Meanings) → length l ≡ most_names → length m ≡ most_names → names_in l ≡ names_in m → l ≡ m
names_same l m p q e =
    ext_get_or 0 l m (p ∙ sym q) (λ i h. meaning-same (get_or l i 0) (get_or m i 0) (ap (λ (f : Names). f i) e))

part_same : (i j : Item) → ItemOk i → ItemOk j → part_of i ≡ part_of j → i ≡ j
part_same (at k l) (at j m) p q e =
    let en : names_in l ≡ names_in m = cc in
    let ek : k ≡ j = cc in
    ap₂ at ek (names_same l m p q en)
part_same (at k l) (shut s) p q e = clash (cc)
part_same (shut p) (at j m) u v e = clash (cc)
part_same (shut p) (shut s) u v e = ap shut (cc)

pub parts_same : (c d : Position) → PositionOk c → PositionOk d → parts_of c ≡ parts_of d → c ≡ d
parts_same [] [] p q e = refl
parts_same [] (j ∷ d) p q e = nil-cons e
parts_same (i ∷ c) [] p q e = nil-cons (sym e)
parts_same (i ∷ c) (j ∷ d) (p, ps) (q, qs) e =
    let eh : part_of i ≡ part_of j = cc in
    let et : parts_of c ≡ parts_of d = cc in
    ap₂ (λ (x : Item) (y : Position). x ∷ y) (part_same i j p q eh) (parts_same c d ps qs et)

-- ── One move, as it is computed ──

-- a position that is there if a test says so
if-found : (t : Bool) (c d : Position) → Memᴰ d (if t c) → (t ≡ true) × (d ≡ c)
if-found true c d m = (refl, Memᴰ.eq_of_singleton m)
if-found false c d m = absurd (Memᴰ.not-nil m)

if-at : (t : Bool) (c : Position) → t ≡ true → Memᴰ c (if t c)
if-at t c e = subst (λ (b : Bool). Memᴰ c (if b c)) (sym e) (Memᴰ.head refl)

not-zero : (r : ℕ) → not (eqb r 0) ≡ true → 1 ≤ r
not-zero zero e = false-true e
not-zero (suc r) e = omega arith

zero-not : (r : ℕ) → 1 ≤ r → not (eqb r 0) ≡ true
zero-not zero h = absurd (omega arith)
zero-not (suc r) h = ap not (ne_eqb (suc r) 0 (λ e. omega arith))

means_is : (l : Meanings) (n r : ℕ) → means l n r ≡ true → names_in l n ≡ some r
means_is l n r e =
    ap meaning_of (eqb-true (get_or l n 0) r (and_left (eqb (get_or l n 0) r) (not (eqb r 0)) e))
    ∙ meaning-some r (not-zero r (and_right (eqb (get_or l n 0) r) (not (eqb r 0)) e))

is-means : (l : Meanings) (n r : ℕ) → names_in l n ≡ some r → means l n r ≡ true
is-means l n r e =
    let (f, k) = meaning-is (get_or l n 0) r e in
    and_both (eqb (get_or l n 0) r) (not (eqb r 0)) (eq-eqb (get_or l n 0) r f) (zero-not r k)

module _ (ns : List Node) (ok : OutlineOk ns) where
  gives : {k n b : ℕ} → Is ns k (fresh n b) → n < most_names
  gives i = (form-ok ok i).0

  abbrev Move : Past → Position → Past → Position → Type 0
  Move past c past' d = outline.Advance ns (record { past = past; parts = parts_of c }) (record { past = past'; parts = parts_of d })

  -- it is a move, and each part keeps its four meanings
  abbrev Leads : Past → Position → Past → Position → Type 0
  Leads past c past' d = Move past c past' d × (PositionOk c → PositionOk d)

  is_at : {k : ℕ} {f : Form} → form_at ns k ≡ some f → Is ns k f
  is_at e = record { form = e }

  silent-at : (past : Past) (k : ℕ) (l : Meanings) (rest d : Position) (o : Option Form) → form_at ns k ≡ o → Memᴰ d (silent_by o l rest)
      → Leads past (at k l ∷ rest) past d
  silent-at past k l rest d none e m = absurd (Memᴰ.not-nil m)
  silent-at past k l rest d (some end) e m =
      subst (λ (d : Position). Leads past (at k l ∷ rest) past d) (sym (Memᴰ.eq_of_singleton m)) (outline.ends (is_at e), λ w. w.1)
  silent-at past k l rest d (some (static_event a s)) e m = absurd (Memᴰ.not-nil m)
  silent-at past k l rest d (some (named_event a n)) e m = absurd (Memᴰ.not-nil m)
  silent-at past k l rest d (some (sequence a b)) e m =
      subst (λ (d : Position). Leads past (at k l ∷ rest) past d) (sym (Memᴰ.eq_of_singleton m))
      (outline.sequences (is_at e), λ w. (w.0, (w.0, w.1)))
  silent-at past k l rest d (some (choice a b)) e m = go (Memᴰ.cases_cons m)
    where
      go : (d ≡ at a l ∷ rest) ⊎ Memᴰ d ((at b l ∷ rest) ∷ []) → Leads past (at k l ∷ rest) past d
      go (inl f) =
          subst (λ (d : Position). Leads past (at k l ∷ rest) past d) (sym f) (outline.chooses_left (is_at e), λ w. (w.0, w.1))
      go (inr i) =
          subst (λ (d : Position). Leads past (at k l ∷ rest) past d) (sym (Memᴰ.eq_of_singleton i))
          (outline.chooses_right (is_at e), λ w. (w.0, w.1))
  silent-at past k l rest d (some (loop a)) e m =
      subst (λ (d : Position). Leads past (at k l ∷ rest) past d) (sym (Memᴰ.eq_of_singleton m))
      (outline.enters (is_at e), λ w. (w.0, w.1))
  silent-at past k l rest d (some (back a)) e m =
      subst (λ (d : Position). Leads past (at k l ∷ rest) past d) (sym (Memᴰ.eq_of_singleton m))
      (outline.repeats (is_at e), λ w. (w.0, w.1))
  silent-at past k l rest d (some (fresh n b)) e m = absurd (Memᴰ.not-nil m)
  silent-at past k l rest d (some (sandbox p b)) e m = absurd (Memᴰ.not-nil m)

  silent-leads : (past : Past) (c d : Position) → Memᴰ d (silent_next ns c) → Leads past c past d
  unfolding silent_next
  silent-leads past [] d m = absurd (Memᴰ.not-nil m)
  silent-leads past (at k l ∷ rest) d m = silent-at past k l rest d (form_at ns k) refl m
  silent-leads past (shut p ∷ rest) d m = absurd (Memᴰ.not-nil m)

  -- an event that is the one of the node
  abbrev LeadsBy : Past → Position → Position → Step → Type 0
  LeadsBy past c d step = PositionOk c → Move past c (step ∷ past) d × PositionOk d

  stride-at : (past : Past) (k : ℕ) (l : Meanings) (rest d : Position) (step : Step) → Fresh step past → (o : Option Form) → form_at ns k ≡ o
      → Memᴰ d (stride_by o l rest step) → LeadsBy past (at k l ∷ rest) d step
  stride-at past k l rest d step new none e m w = absurd (Memᴰ.not-nil m)
  stride-at past k l rest d step new (some end) e m w = absurd (Memᴰ.not-nil m)
  stride-at past k l rest d (event a r) new (some (static_event b s)) e m w =
      let (t, f) = if-found (eqb a b && eqb r s) rest d m in
      let ea : b ≡ a = sym (eqb-true a b (and_left (eqb a b) (eqb r s) t)) in
      let er : s ≡ r = sym (eqb-true r s (and_right (eqb a b) (eqb r s) t)) in
      subst (λ (d : Position). Move past (at k l ∷ rest) (event a r ∷ past) d × PositionOk d) (sym f)
      (subst (λ (step : Step). Move past (at k l ∷ rest) (step ∷ past) rest) (ap₂ event ea er) (outline.fires_static (is_at e)), w.1)
  stride-at past k l rest d (opening p) new (some (static_event b s)) e m w = absurd (Memᴰ.not-nil m)
  stride-at past k l rest d (closing p) new (some (static_event b s)) e m w = absurd (Memᴰ.not-nil m)
  stride-at past k l rest d (retiring r) new (some (static_event b s)) e m w = absurd (Memᴰ.not-nil m)
  stride-at past k l rest d (event a r) new (some (named_event b n)) e m w =
      let (t, f) = if-found (eqb a b && means l n r) rest d m in
      let ea : b ≡ a = sym (eqb-true a b (and_left (eqb a b) (means l n r) t)) in
      let er = means_is l n r (and_right (eqb a b) (means l n r) t) in
      subst (λ (d : Position). Move past (at k l ∷ rest) (event a r ∷ past) d × PositionOk d) (sym f)
      (subst (λ (a : ℕ). Move past (at k l ∷ rest) (event a r ∷ past) rest) ea (outline.fires_name (is_at e) er), w.1)
  stride-at past k l rest d (opening p) new (some (named_event b n)) e m w = absurd (Memᴰ.not-nil m)
  stride-at past k l rest d (closing p) new (some (named_event b n)) e m w = absurd (Memᴰ.not-nil m)
  stride-at past k l rest d (retiring r) new (some (named_event b n)) e m w = absurd (Memᴰ.not-nil m)
  stride-at past k l rest d step new (some (sequence a b)) e m w = absurd (Memᴰ.not-nil m)
  stride-at past k l rest d step new (some (choice a b)) e m w = absurd (Memᴰ.not-nil m)
  stride-at past k l rest d step new (some (loop a)) e m w = absurd (Memᴰ.not-nil m)
  stride-at past k l rest d step new (some (back a)) e m w = absurd (Memᴰ.not-nil m)
  stride-at past k l rest d (event a r) new (some (fresh n b)) e m w =
      let (t, f) = if-found (eqb a create && leb statics r) (at b (set l n r) ∷ rest) d m in
      let ea : create ≡ a = sym (eqb-true a create (and_left (eqb a create) (leb statics r) t)) in
      let high : statics ≤ r = leb-true statics r (and_right (eqb a create) (leb statics r) t) in
      let eg = given_is l n r (let h = gives (is_at e) in let q = w.0 in omega arith) (omega arith) in
      subst (λ (d : Position). Move past (at k l ∷ rest) (event a r ∷ past) d × PositionOk d) (sym f) (
        subst (λ (a : ℕ). Move past (at k l ∷ rest) (event a r ∷ past) (at b (set l n r) ∷ rest)) ea
            (subst (λ (names : Names). outline.Advance ns (record { past = past; parts = parts_of (at k l ∷ rest) })
            (record { past = event create r ∷ past; parts = node b names ∷ parts_of rest })) eg
            (outline.creates (is_at e) high (new r (ap (λ (a : ℕ). event a r) (sym ea))))),
        (length-set l n r ∙ w.0, w.1),
      )
  stride-at past k l rest d (opening p) new (some (fresh n b)) e m w = absurd (Memᴰ.not-nil m)
  stride-at past k l rest d (closing p) new (some (fresh n b)) e m w = absurd (Memᴰ.not-nil m)
  stride-at past k l rest d (retiring r) new (some (fresh n b)) e m w = absurd (Memᴰ.not-nil m)
  stride-at past k l rest d (event a r) new (some (sandbox s b)) e m w = absurd (Memᴰ.not-nil m)
  stride-at past k l rest d (opening p) new (some (sandbox s b)) e m w =
      let (t, f) = if-found (eqb p s) (at b l ∷ shut s ∷ rest) d m in
      let ep : s ≡ p = sym (eqb-true p s t) in
      subst (λ (d : Position). Move past (at k l ∷ rest) (opening p ∷ past) d × PositionOk d) (sym f)
      (subst (λ (p : ℕ). Move past (at k l ∷ rest) (opening p ∷ past) (at b l ∷ shut s ∷ rest)) ep (outline.opens (is_at e)), (w.0, (tt, w.1)))
  stride-at past k l rest d (closing p) new (some (sandbox s b)) e m w = absurd (Memᴰ.not-nil m)
  stride-at past k l rest d (retiring r) new (some (sandbox s b)) e m w = absurd (Memᴰ.not-nil m)

  stride-shut : (past : Past) (s : ℕ) (rest d : Position) (step : Step) → Memᴰ d (on_closing (λ p. if (eqb p s) rest) step)
      → LeadsBy past (shut s ∷ rest) d step
  stride-shut past s rest d (event a r) m w = absurd (Memᴰ.not-nil m)
  stride-shut past s rest d (opening p) m w = absurd (Memᴰ.not-nil m)
  stride-shut past s rest d (closing p) m w =
      let (t, f) = if-found (eqb p s) rest d m in
      let ep : s ≡ p = sym (eqb-true p s t) in
      subst (λ (d : Position). Move past (shut s ∷ rest) (closing p ∷ past) d × PositionOk d) (sym f)
      (subst (λ (p : ℕ). Move past (shut s ∷ rest) (closing p ∷ past) rest) ep outline.closes, w.1)
  stride-shut past s rest d (retiring r) m w = absurd (Memᴰ.not-nil m)

  stride-leads : (past : Past) (c d : Position) (step : Step) → Fresh step past → Memᴰ d (stride_next ns step c) → LeadsBy past c d step
  unfolding stride_next
  stride-leads past [] d step new m w = absurd (Memᴰ.not-nil m)
  stride-leads past (at k l ∷ rest) d step new m w = stride-at past k l rest d step new (form_at ns k) refl m w
  stride-leads past (shut s ∷ rest) d step new m w = stride-shut past s rest d step m w

  -- ── Every move is computed ──

  pub record AtNode (c : Position) (k : ℕ) (names : Names) (rest : List Part) : Type 0 where
    pub meanings : Meanings
    pub behind : Position
    pub is : c ≡ at k meanings ∷ behind
    pub names-are : names ≡ names_in meanings
    pub rest-is : rest ≡ parts_of behind

  first-node : (c : Position) {k : ℕ} {names : Names} {rest : List Part} → node k names ∷ rest ≡ parts_of c → AtNode c k names rest
  first-node [] e = nil-cons (sym e)
  first-node (at j l ∷ c) {k} {names} {rest} e = record {
    meanings = l;
    behind = c;
    is = ap (λ (n : ℕ). at n l ∷ c) (sym k-is);
    names-are = cc;
    rest-is = cc;
  }
    where
      k-is : k ≡ j
      k-is = cc
  first-node (shut p ∷ c) {k} {names} {rest} e = clash (apart (cc))
    where
      kind : Part → ℕ
      kind (node k names) = 0
      kind (close p) = 1

      apart : node k names ≡ close p → ◌≡◌ {A = ℕ} 0 1
      apart f = ap kind f

  first-close : (c : Position) {p : ℕ} {rest : List Part} → close p ∷ rest ≡ parts_of c → (d : Position) × (c ≡ shut p ∷ d) × (rest ≡ parts_of d)
  first-close [] e = nil-cons (sym e)
  first-close (at j l ∷ c) {p} {rest} e = clash (apart (cc))
    where
      kind : Part → ℕ
      kind (node k names) = 1
      kind (close p) = 0

      apart : close p ≡ node j (names_in l) → ◌≡◌ {A = ℕ} 0 1
      apart f = ap kind f
  first-close (shut s ∷ c) {p} {rest} e = (c, ap (λ (n : ℕ). shut n ∷ c) (sym p-is), cc)
    where
      p-is : p ≡ s
      p-is = cc

  -- what a position that stands for the parts before stands for after
  abbrev Follows : (Position → List Position) → List Part → List Part → Type 0
  Follows next parts parts' =
      (c : Position) → PositionOk c → parts ≡ parts_of c → (d : Position) × Memᴰ d (next c) × (parts_of d ≡ parts')

  pub data Moved (r r' : Run) : Type 0 where
    silently : r'.past ≡ r.past → Follows (silent_next ns) r.parts r'.parts → Moved r r'
    by_step : (step : Step) → r'.past ≡ step ∷ r.past → Follows (stride_next ns step) r.parts r'.parts → Moved r r'

  -- from a node
  from-node : {k : ℕ} {f : Form} {names : Names} {rest parts' : List Part} → Is ns k f
      → ((l : Meanings) (behind : Position) → names ≡ names_in l → rest ≡ parts_of behind
      → (d : Position) × Memᴰ d (silent_by (some f) l behind) × (parts_of d ≡ parts'))
      → Follows (silent_next ns) (node k names ∷ rest) parts'
  unfolding silent_next
  from-node {parts' = parts'} i h c w e =
      let a = first-node c e in
      let (d, m, q) = h a.meanings a.behind a.names-are a.rest-is in
      subst (λ (c : Position). (d : Position) × Memᴰ d (silent_next ns c) × (parts_of d ≡ parts')) (sym a.is)
      (d, subst (λ (o : Option Form). Memᴰ d (silent_by o a.meanings a.behind)) (sym i.form) m, q)

  step-node : {k : ℕ} {f : Form} {names : Names} {rest parts' : List Part} (step : Step) → Is ns k f
      → ((l : Meanings) (behind : Position) → length l ≡ most_names → names ≡ names_in l → rest ≡ parts_of behind
      → (d : Position) × Memᴰ d (stride_by (some f) l behind step) × (parts_of d ≡ parts'))
      → Follows (stride_next ns step) (node k names ∷ rest) parts'
  unfolding stride_next
  step-node {k} {parts' = parts'} step i h c w e =
      let a = first-node c e in
      let w₁ = subst PositionOk a.is w in
      let (d, m, q) = h a.meanings a.behind w₁.0 a.names-are a.rest-is in
      subst (λ (c : Position). (d : Position) × Memᴰ d (stride_next ns step c) × (parts_of d ≡ parts')) (sym a.is)
      (d, subst (λ (o : Option Form). Memᴰ d (stride_by o a.meanings a.behind step)) (sym i.form) m, q)

  -- each move
  pub move-is : {r r' : Run} → outline.Advance ns r r' → Moved r r'
  unfolding stride_next
  move-is (outline.ends i) = silently refl (from-node i (λ l b e f. (b, Memᴰ.head refl, sym f)))
  move-is (outline.fires_static {a = a} {s} i) =
      by_step (event a s) refl (step-node (event a s) i
      (λ l b h e f. (b, if-at (eqb a a && eqb s s) b (and_both (eqb a a) (eqb s s) (eq-eqb a a refl) (eq-eqb s s refl)), sym f)))
  move-is (outline.fires_name {a = a} {n} {r} i m) =
      by_step (event a r) refl (step-node (event a r) i
      (λ l b h e f. (
        b,
        if-at (eqb a a && means l n r) b (and_both (eqb a a) (means l n r) (eq-eqb a a refl)
            (is-means l n r (ap (λ (g : Names). g n) (sym e) ∙ m))),
        sym f,
      )))
  move-is (outline.sequences {a = a} {b} i) =
      silently refl (from-node i (λ l c e f. (
        at a l ∷ at b l ∷ c,
        Memᴰ.head refl,
        ap₂ (λ (x : Names) (y : List Part). node a x ∷ node b x ∷ y) (sym e) (sym f),
      )))
  move-is (outline.chooses_left {a = a} i) =
      silently refl (from-node i (λ l c e f. (
        at a l ∷ c,
        Memᴰ.head refl,
        ap₂ (λ (x : Names) (y : List Part). node a x ∷ y) (sym e) (sym f),
      )))
  move-is (outline.chooses_right {b = b} i) =
      silently refl (from-node i (λ l c e f. (
        at b l ∷ c,
        Memᴰ.tail (Memᴰ.head refl),
        ap₂ (λ (x : Names) (y : List Part). node b x ∷ y) (sym e) (sym f),
      )))
  move-is (outline.enters {a = a} i) =
      silently refl (from-node i (λ l c e f. (
        at a l ∷ c,
        Memᴰ.head refl,
        ap₂ (λ (x : Names) (y : List Part). node a x ∷ y) (sym e) (sym f),
      )))
  move-is (outline.repeats {a = a} i) =
      silently refl (from-node i (λ l c e f. (
        at a l ∷ c,
        Memᴰ.head refl,
        ap₂ (λ (x : Names) (y : List Part). node a x ∷ y) (sym e) (sym f),
      )))
  move-is (outline.creates {n = n} {b} {r} i high new) =
      by_step (event create r) refl (step-node (event create r) i
      (λ l c h e f. (
        at b (set l n r) ∷ c,
        if-at (eqb create create && leb statics r) (at b (set l n r) ∷ c) (le-leb statics r high),
        ap₂ (λ (x : Names) (y : List Part). node b x ∷ y)
            (sym (ap (λ (g : Names). give g n r) e ∙ given_is l n r (let z = gives i in omega arith) (omega arith))) (sym f),
      )))
  move-is (outline.opens {p = p} {b} i) =
      by_step (opening p) refl (step-node (opening p) i
      (λ l c h e f. (
        at b l ∷ shut p ∷ c,
        if-at (eqb p p) (at b l ∷ shut p ∷ c) (eq-eqb p p refl),
        ap₂ (λ (x : Names) (y : List Part). node b x ∷ close p ∷ y) (sym e) (sym f),
      )))
  move-is (outline.closes {p}) = by_step (closing p) refl shuts
    where
      shuts : {p : ℕ} {rest : List Part} → Follows (stride_next ns (closing p)) (close p ∷ rest) rest
      shuts {p} {rest} c w e =
          let (d, f, g) = first-close c e in
          subst (λ (c : Position). (d : Position) × Memᴰ d (stride_next ns (closing p) c) × (parts_of d ≡ rest)) (sym f)
          (d, if-at (eqb p p) d (eq-eqb p p refl), sym g)

  -- ── All positions ──

  stride-all-found : (step : Step) (l : List Position) (d : Position) → Memᴰ d (stride_all ns step l)
      → (c : Position) × Memᴰ c l × Memᴰ d (stride_next ns step c)
  unfolding stride_all
  stride-all-found step [] d m = absurd (Memᴰ.not-nil m)
  stride-all-found step (c ∷ l) d m = by_cases (Memᴰ.append_cases (stride_next ns step c) m)
      (λ i. (c, Memᴰ.head refl, i))
      (λ i. let (b, j, k) = stride-all-found step l d i in (b, Memᴰ.tail j, k))

  stride-all-at : (step : Step) (l : List Position) (c d : Position) → Memᴰ c l → Memᴰ d (stride_next ns step c)
      → Memᴰ d (stride_all ns step l)
  unfolding stride_all
  stride-all-at step [] c d m i = absurd (Memᴰ.not-nil m)
  stride-all-at step (b ∷ l) c d m i = by_cases (Memᴰ.cases_cons m)
      (λ e. Memᴰ.append_left (stride_all ns step l) (subst (λ (x : Position). Memᴰ d (stride_next ns step x)) e i))
      (λ j. Memᴰ.append_right (stride_next ns step b) (stride-all-at step l c d j i))

  -- what is to be listed: positions that runs with these steps can hold
  abbrev Right : Past → Position → Type 0
  Right past c = Held ns past (parts_of c) × PositionOk c

  silent-right : (past : Past) (c d : Position) → Right past c → Memᴰ d (silent_next ns c) → Right past d
  silent-right past c d (h, w) m = let (g, k) = silent-leads past c d m in (moved h g, k w)

  stride-right : (step : Step) (past : Past) → Fresh step past → (c d : Position) → Right past c → Memᴰ d (stride_next ns step c)
      → Right (step ∷ past) d
  stride-right step past new c d (h, w) m = let (g, k) = stride-leads past c d step new m w in (moved h g, k)

  start_right : Right [] start_position
  start_right = (
    subst (λ (names : Names). Held ns [] (node 0 names ∷ [])) (sym nothing_is) started,
    (refl, tt),
  )

  -- the list has the parts
  abbrev In : List Position → List Part → Type 0
  In l parts = (c : Position) × Memᴰ c l × (parts_of c ≡ parts)

  module _ (past : Past) (seeds l : List Position)
      (all : All same_position same-position (silent_next ns) most_positions short (Right past) (silent-right past) seeds l) where
    silent-in : {parts parts' : List Part} → Follows (silent_next ns) parts parts' → In l parts → In l parts'
    silent-in follows (c, m, e) =
        let (d, i, f) = follows c (all.right c m).1 (sym e) in
        (d, all.closed c d m i, f)

    lists-all : ((parts : List Part) → Held ns past parts → In l parts) → Lists ns past l
    lists-all full = record {
      sound = λ c m. (all.right c m).0;
      full = full;
      well = λ c m. (all.right c m).1;
      different = all.apart;
      few = all.few;
      brief = λ c m. leb-true (length c) most_parts (all.each_small c m);
    }

  beyond-exceeds : (past : Past) → Beyond same_position same-position (silent_next ns) most_positions short (Right past) (silent-right past)
      → Exceeds ns past
  beyond-exceeds past (many l d h right) =
      too_many (map parts_of l) (different-map parts_of l d (λ a b i j e. parts_same a b (right a i).1 (right b j).1 e))
      (omega (arith, h, length-map l parts_of))
      (λ parts m. let (c, i, e) = Memᴰ.of_map parts_of l m in subst (Held ns past) e (right c i).0)
  beyond-exceeds past (large c (h, w) e) =
      too_long (parts_of c) h (omega (arith, leb-false (length c) most_parts e, length-map c part_of))

  -- ── At the load ──

  cons-nil : {A B : Type 0} {x : A} {l : List A} → ◌≡◌ {A = List A} (x ∷ l) [] → B
  cons-nil e = nil-cons (sym e)

  start-full : (l : List Position)
      → All same_position same-position (silent_next ns) most_positions short (Right []) (silent-right []) (start_position ∷ []) l
      → {r : Run} → Runs ns r → r.past ≡ [] → In l r.parts
  start-full l all started e =
      (start_position, all.seeds start_position (Memᴰ.head refl), ap (λ (names : Names). node 0 names ∷ []) nothing_is)
  start-full l all (moved {r} {r'} rs m) e = go (move-is m) (λ f. start-full l all rs f)
    where
      go : Moved r r' → (r.past ≡ [] → In l r.parts) → In l r'.parts
      go (silently f h) ih = silent-in [] (start_position ∷ []) l all h (ih (sym f ∙ e))
      go (by_step s f h) ih = cons-nil (sym f ∙ e)

  pub told-start : Told ns [] (start_positions ns)
  unfolding settled_from
  told-start =
      go (start_positions ns)
      (reached-is same_position same-position (silent_next ns) most_positions short (Right []) (silent-right []) (start_position ∷ [])
      (λ c m. subst (Right []) (sym (Memᴰ.eq_of_singleton m)) start_right))
    where
      go : (o : Option (List Position))
          → Spreads same_position same-position (silent_next ns) most_positions short (Right []) (silent-right []) (start_position ∷ []) o
          → Told ns [] o
      go none b = beyond-exceeds [] b
      go (some l) all = lists-all [] (start_position ∷ []) l all (λ parts h. start-full l all h refl)

  -- ── One more step ──

  module _ (step : Step) (past : Past) (l₀ : List Position) (before : Lists ns past l₀) where
    -- a trace with one more step comes from one of the positions
    strides-from : {r : Run} → Runs ns r → r.past ≡ step ∷ past → (d : Position) × Memᴰ d (stride_all ns step l₀)
    strides-from started e = nil-cons e
    strides-from (moved {r} {r'} rs m) e = go (move-is m) (λ f. strides-from rs f)
      where
        go : Moved r r' → (r.past ≡ step ∷ past → (d : Position) × Memᴰ d (stride_all ns step l₀))
            → (d : Position) × Memᴰ d (stride_all ns step l₀)
        go (silently f h) ih = ih (sym f ∙ e)
        go (by_step s f h) ih =
            let g : s ∷ r.past ≡ step ∷ past = sym f ∙ e in
            let es : s ≡ step = cc in
            let ep : r.past ≡ past = cc in
            let (c, i, q) = before.full r.parts (subst (λ (p : Past). Held ns p r.parts) ep rs) in
            let (d, j, k) = h c (before.well c i) (sym q) in
            (d, stride-all-at step l₀ c d i (subst (λ (s : Step). Memᴰ d (stride_next ns s c)) es j))

    pub trace-strides : IsTrace ns (step ∷ past) → (d : Position) × Memᴰ d (stride_all ns step l₀)
    trace-strides (parts, rs) = strides-from rs refl

  module _ (step : Step) (past : Past) (l₀ : List Position) (before : Lists ns past l₀) (new : Fresh step past) where
    abbrev seeds : List Position
    seeds = stride_all ns step l₀

    seeds-right : (d : Position) → Memᴰ d seeds → Right (step ∷ past) d
    seeds-right d m =
        let (c, i, j) = stride-all-found step l₀ d m in
        stride-right step past new c d (before.sound c i, before.well c i) j

    -- and where one of the positions takes the step, it is one of a trace
    pub strides-trace : (d : Position) → Memᴰ d seeds → IsTrace ns (step ∷ past)
    strides-trace d m = (parts_of d, (seeds-right d m).0)

    next-full : (l : List Position)
        → All same_position same-position (silent_next ns) most_positions short (Right (step ∷ past)) (silent-right (step ∷ past)) seeds l
        → {r : Run} → Runs ns r → r.past ≡ step ∷ past → In l r.parts
    next-full l all started e = nil-cons e
    next-full l all (moved {r} {r'} rs m) e = go (move-is m) (λ f. next-full l all rs f)
      where
        go : Moved r r' → (r.past ≡ step ∷ past → In l r.parts) → In l r'.parts
        go (silently f h) ih = silent-in (step ∷ past) seeds l all h (ih (sym f ∙ e))
        go (by_step s f h) ih =
            let g : s ∷ r.past ≡ step ∷ past = sym f ∙ e in
            let es : s ≡ step = cc in
            let ep : r.past ≡ past = cc in
            let (c, i, q) = before.full r.parts (subst (λ (p : Past). Held ns p r.parts) ep rs) in
            let (d, j, k) = h c (before.well c i) (sym q) in
            (d, all.seeds d (stride-all-at step l₀ c d i (subst (λ (s : Step). Memᴰ d (stride_next ns s c)) es j)), k)

    -- If the list was exact, the next one is, or a limit is exceeded.
    pub told-next : Told ns (step ∷ past) (next_positions ns step l₀)
    unfolding settled_from
    told-next =
        go (next_positions ns step l₀)
        (reached-is same_position same-position (silent_next ns) most_positions short (Right (step ∷ past)) (silent-right (step ∷ past)) seeds
        seeds-right)
      where
        go : (o : Option (List Position))
            → Spreads same_position same-position (silent_next ns) most_positions short (Right (step ∷ past)) (silent-right (step ∷ past)) seeds o
            → Told ns (step ∷ past) o
        go none b = beyond-exceeds (step ∷ past) b
        go (some l) all = lists-all (step ∷ past) seeds l all (λ parts h. next-full l all h refl)

-- ── What the list tells ──

-- the steps are a trace exactly where there is a position
pub lists-trace : {ns : List Node} {past : Past} (c : Position) (l : List Position) → Lists ns past (c ∷ l) → IsTrace ns past
lists-trace c l w = (parts_of c, w.sound c (Memᴰ.head refl))

pub lists-stray : {ns : List Node} {past : Past} → Lists ns past [] → IsTrace ns past → ⊥
lists-stray w (parts, h) = let (c, m, e) = w.full parts h in Memᴰ.not-nil m

-- where the list is exact, nothing is exceeded
pub lists-within : {ns : List Node} {past : Past} {l : List Position} → Lists ns past l → Exceeds ns past → ⊥
lists-within {l = l} w (too_many k d h held) =
    let few = w.few in
    omega (
      arith,
      h,
      few,
      length-map l parts_of,
      at_most k (map parts_of l) d
          (λ parts m. let (c, i, e) = w.full parts (held parts m) in subst (λ (p : List Part). Memᴰ p (map parts_of l)) e (Memᴰ.map parts_of i)),
    )
lists-within w (too_long parts held h) =
    let (c, m, e) = w.full parts held in
    let b = w.brief c m in
    let q : length (parts_of c) ≡ length parts = ap length e in
    omega (arith, h, b, q, length-map c part_of)
