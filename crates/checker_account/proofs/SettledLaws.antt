-- Filling the table of ends node by node: a node is settled again only where one of its parts has changed.
use Prim.Native.Nat.{ℕ, zero, suc, ◌+◌, ◌-◌, ◌<◌, ◌≤◌}
use mathlib.Core.Path.{◌≡◌, refl, sym, ap, ap₂, ◌∙◌, subst}
use mathlib.Core.Bool.{Bool, true, false, cond}
use mathlib.Core.Option.{Option, none, some}
use mathlib.Core.List.{List}
use mathlib.Core.Logic.{◌⊎◌, inl, inr}
use native.Mathlib.Omega.{arith}
use native.Mathlib.Decide.{ℕ_discrete}
use lib.Dec.{eqb, leb}
use lib.Bits.{bit_or, or_self, or_comm}
use lib.ListN.{length, get_or, set}
use lib.Seq.{get_or-set_same, get_or-set_other, set_out, set-get_or}
use borrow.Author.Tests.{leb-true, leb-false}
use Rattle.usage.specs.Limits.{states, most_nodes}
use Rattle.usage.specs.Outline.{Form, end, static_event, named_event, sequence, choice, loop, back, fresh, sandbox}
use Rattle.usage.proofs.Logic.{last-or-lower}
use Rattle.automaton.specs.Mask.{has, union}
use Rattle.automaton.proofs.MaskLaws.{or_assoc}
use Rattle.checker_account.specs.Account.{watched, watched_too, others}
use Rattle.checker_account.specs.declared.Resources.{Resources}
use Rattle.checker_account.specs.Tables.{made, meaning_in, waiting_group, is_late_lem, in_group_lem, forgotten_in, first_named_lem, second_named_lem, entry_after}
use Rattle.checker_account.specs.Tables.{least, entries_of_lem, base, places_of, half, begun, Rows, row_on, Resets, never, opening_of}
use Rattle.checker_account.specs.Tables.{in_turn, sequence_ends_lem, fresh_ends_lem, inside_ends_lem, ends_by_lem, over, joined_at}
use Rattle.checker_account.specs.Filling.{repeat, joined_each, ends_of_lem, settle_entry, settle_node_lem}
use Rattle.checker_account.proofs.GrowsLaws.{joined-grows, repeat-keeps, repeat-grows}
use Rattle.checker_account.proofs.SettleLaws.{entry-grows, node-closed}

-- ── What is in an entry ──

-- the set v is in the entry at place i
abbrev pub In : ℕ → List ℕ → ℕ → Type 0
In v t i = bit_or (get_or t i 0) v ≡ get_or t i 0

-- an entry that nothing is joined to
pub joined-other : (t : List ℕ) (i v j : ℕ) → (j ≡ i → ⊥) → get_or (joined_at t i v) j 0 ≡ get_or t j 0
unfolding joined_at
joined-other t i v j d = get_or-set_other t i j (bit_or (get_or t i 0) v) 0 d

pub in-still : (t : List ℕ) (i v : ℕ) → In v t i → joined_at t i v ≡ t
unfolding joined_at
in-still t i v e = ap (set t i) e ∙ set-get_or t i 0

still-in : (t : List ℕ) (i v : ℕ) → i < length t → joined_at t i v ≡ t → In v t i
unfolding joined_at
still-in t i v l e = sym (get_or-set_same t i (bit_or (get_or t i 0) v) 0 l) ∙ ap (λ (u : List ℕ). get_or u i 0) e

in-joined : (t : List ℕ) (i v : ℕ) → i < length t → In v (joined_at t i v) i
unfolding joined_at
in-joined t i v l =
    let e = get_or-set_same t i (bit_or (get_or t i 0) v) 0 l in
    ap (λ (n : ℕ). bit_or n v) e ∙ or_assoc (get_or t i 0) v v ∙ ap (bit_or (get_or t i 0)) (or_self v) ∙ sym e

in_kept : (t : List ℕ) (i u v j : ℕ) → In v t j → In v (joined_at t i u) j
unfolding joined_at
in_kept t i u v j h = go (leb (length t) i) refl
  where
    inside : i < length t → Dec (j ≡ i) → In v (set t i (bit_or (get_or t i 0) u)) j
    inside l (yes e) =
        let f : get_or (set t i (bit_or (get_or t i 0) u)) j 0 ≡ bit_or (get_or t j 0) u =
        ap (λ (n : ℕ). get_or (set t i (bit_or (get_or t i 0) u)) n 0) e ∙ get_or-set_same t i (bit_or (get_or t i 0) u) 0 l
        ∙ ap (λ (n : ℕ). bit_or (get_or t n 0) u) (sym e) in
        ap (λ (n : ℕ). bit_or n v) f
        ∙ or_assoc (get_or t j 0) u v
        ∙ ap (bit_or (get_or t j 0)) (or_comm u v)
        ∙ sym (or_assoc (get_or t j 0) v u)
        ∙ ap (λ (n : ℕ). bit_or n u) h
        ∙ sym f
    inside l (no d) =
        let f : get_or (set t i (bit_or (get_or t i 0) u)) j 0 ≡ get_or t j 0 = get_or-set_other t i j (bit_or (get_or t i 0) u) 0 d in
        ap (λ (n : ℕ). bit_or n v) f ∙ h ∙ sym f

    go : (b : Bool) → leb (length t) i ≡ b → In v (set t i (bit_or (get_or t i 0) u)) j
    go true e = subst (λ (w : List ℕ). In v w j) (sym (set_out t i (bit_or (get_or t i 0) u) (leb-true (length t) i e))) h
    go false e = inside (leb-false (length t) i e) (ℕ_discrete j i)

-- of sets that are joined one after the other, each is in its entry
each-upto : (t : List ℕ) (i : ℕ) (f : ℕ → ℕ) (n : ℕ) → i + n ≤ length t → (q : ℕ) → q < n
    → In (f q) (repeat (λ q u. joined_at u (i + q) (f q)) n t) (i + q)
unfolding repeat
each-upto t i f zero h q l = absurd (omega arith)
each-upto t i f (suc n) h q l = go (each-upto t i f n (omega arith) q) (last-or-lower q n l)
  where
    before : List ℕ
    before = repeat (λ q u. joined_at u (i + q) (f q)) n t

    len : length before ≡ length t
    len = (repeat-grows (λ q u. joined_at u (i + q) (f q)) (λ q u. joined-grows u (i + q) (f q)) n t).len

    go : (q < n → In (f q) before (i + q)) → (q ≡ n) ⊎ (q < n) → In (f q) (joined_at before (i + n) (f n)) (i + q)
    go ih (inl e) =
        subst (λ (j : ℕ). In (f j) (joined_at before (i + n) (f n)) (i + j)) (sym e)
        (in-joined before (i + n) (f n) (omega (arith, len)))
    go ih (inr b) = in_kept before (i + n) (f n) (f q) (i + q) (ih b)

each_in : (t : List ℕ) (i : ℕ) (f : ℕ → ℕ) → i + states ≤ length t → (q : ℕ) → q < states → In (f q) (joined_each t i f) (i + q)
unfolding joined_each
each_in t i f room q l = each-upto t i f states room q l

each_keeps : (t : List ℕ) (i : ℕ) (f : ℕ → ℕ) (v j : ℕ) → In v t j → In v (joined_each t i f) j
unfolding joined_each
each_keeps t i f v j h =
    repeat-keeps (λ u. In v u j) (λ q u. joined_at u (i + q) (f q)) states (λ q u l g. in_kept u (i + q) (f q) v j g) t h

-- ── What a rule reads ──

-- the nodes whose ends a form's rule reads
pub data PartOf : Form → ℕ → Type 0 where
  first : {a b : ℕ} → PartOf (sequence a b) a
  second : {a b : ℕ} → PartOf (sequence a b) b
  left : {a b : ℕ} → PartOf (choice a b) a
  right : {a b : ℕ} → PartOf (choice a b) b
  body : {a : ℕ} → PartOf (loop a) a
  again : {a : ℕ} → PartOf (back a) a
  given : {n b : ℕ} → PartOf (fresh n b) b
  inside : {s b : ℕ} → PartOf (sandbox s b) b

abbrev pub Reads : Option Form → ℕ → Type 0
Reads none j = ⊥
Reads (some f) j = PartOf f j

-- they are in the table
abbrev pub Placed : Option Form → Type 0
Placed f = (j : ℕ) → Reads f j → j < most_nodes

-- two tables that differ at node k alone
abbrev pub Beside : ℕ → List ℕ → List ℕ → Type 0
Beside k t u = (j m q : ℕ) → (j ≡ k → ⊥) → j < most_nodes → q < states → get_or t (base j m + q) 0 ≡ get_or u (base j m + q) 0

union-same : (f g : ℕ → ℕ) (v n : ℕ) → n ≤ states → ((q : ℕ) → q < states → f q ≡ g q)
    → union n (λ q. cond (has v q) (f q) 0) ≡ union n (λ q. cond (has v q) (g q) 0)
unfolding union
union-same f g v zero l h = refl
union-same f g v (suc n) l h =
    ap₂ (λ (a b : ℕ). bit_or a b) (union-same f g v n (omega arith) h) (ap (λ (a : ℕ). cond (has v n) a 0) (h n (omega arith)))

over-same : (f g : ℕ → ℕ) (v : ℕ) → ((q : ℕ) → q < states → f q ≡ g q) → over f v ≡ over g v
unfolding over
over-same f g v h = union-same f g v states (omega arith) h

module _ (k : ℕ) (t u : List ℕ) (same : Beside k t u) where
  begun-same : (b m v : ℕ) → (b ≡ k → ⊥) → b < most_nodes → begun t b m v ≡ begun u b m v
  begun-same b m v d l = over-same (λ q. get_or t (base b m + q) 0) (λ q. get_or u (base b m + q) 0) v (λ q h. same b m q d l h)

  turn-same : (a b f e q : ℕ) → (a ≡ k → ⊥) → a < most_nodes → (b ≡ k → ⊥) → b < most_nodes → q < states
      → in_turn t a b f e q ≡ in_turn u a b f e q
  turn-same a b f e q da la db lb h =
      let same_first = same a f q da la h in
      ap₂ (λ (x y : ℕ). bit_or x y)
      (begun-same b (entry_after e false) (half false (get_or t (base a f + q) 0)) db lb
      ∙ ap (λ (v : ℕ). begun u b (entry_after e false) (half false v)) same_first)
      (begun-same b (entry_after e true) (half true (get_or t (base a f + q) 0)) db lb
      ∙ ap (λ (v : ℕ). begun u b (entry_after e true) (half true v)) same_first)

  sequence-same : (a b e q : ℕ) → (a ≡ k → ⊥) → a < most_nodes → (b ≡ k → ⊥) → b < most_nodes → q < states
      → sequence_ends_lem t a b e q ≡ sequence_ends_lem u a b e q
  unfolding sequence_ends_lem
  sequence-same a b e q da la db lb h =
      ap₂ (λ (v w : ℕ). cond (is_late_lem e) v w)
      (ap₂ (λ (v w : ℕ). bit_or v w) (turn-same a b (in_group_lem waiting_group e) e q da la db lb h)
      (turn-same a b e (in_group_lem 0 e) q da la db lb h))
      (turn-same a b e e q da la db lb h)

  fresh-same : (rows : Rows) (x : Resources) (i n b e q : ℕ) → (b ≡ k → ⊥) → b < most_nodes
      → fresh_ends_lem rows x t i n b e q ≡ fresh_ends_lem rows x u i n b e q
  unfolding fresh_ends_lem
  fresh-same rows x i n b e q d l =
      ap₂ (λ (v w : ℕ). bit_or v w)
      (ap₂ (λ (v w : ℕ). bit_or v w) (begun-same b (forgotten_in e n) (row_on rows x i others q) d l)
      (ap (cond (made (meaning_in e)) 0) (begun-same b (first_named_lem e n) (row_on rows x i watched q) d l)))
      (ap (λ (v : ℕ). cond (is_late_lem e) v 0) (begun-same b (second_named_lem e n) (row_on rows x i watched_too q) d l))

  inside-same : (resets : Resets) (s b m q : ℕ) → (b ≡ k → ⊥) → b < most_nodes → q < states
      → inside_ends_lem resets t s b m q ≡ inside_ends_lem resets u s b m q
  inside-same never s b m q d l h = same b m q d l h
  inside-same (opening_of p opened) s b m q d l h = ap (cond (eqb s p) (get_or opened (base b m + 0) 0)) (same b m q d l h)

  -- a rule that does not read node k gives the same
  pub ends_same : (rows : Rows) (x : Resources) (resets : Resets) (i m q : ℕ) (f : Option Form) → Placed f → (Reads f k → ⊥) → q < states
      → ends_of_lem rows x resets t i m q f ≡ ends_of_lem rows x resets u i m q f
  unfolding ends_by_lem
  ends_same rows x resets i m q none s d h = refl
  ends_same rows x resets i m q (some end) s d h = refl
  ends_same rows x resets i m q (some (static_event a b)) s d h = refl
  ends_same rows x resets i m q (some (named_event a b)) s d h = refl
  ends_same rows x resets i m q (some (sequence a b)) s d h =
      sequence-same a b m q (λ e. d (subst (PartOf (sequence a b)) e first)) (s a first)
      (λ e. d (subst (PartOf (sequence a b)) e second)) (s b second) h
  ends_same rows x resets i m q (some (choice a b)) s d h =
      ap₂ (λ (x y : ℕ). bit_or x y) (same a m q (λ e. d (subst (PartOf (choice a b)) e left)) (s a left) h)
      (same b m q (λ e. d (subst (PartOf (choice a b)) e right)) (s b right) h)
  ends_same rows x resets i m q (some (loop a)) s d h = same a m q (λ e. d (subst (PartOf (loop a)) e body)) (s a body) h
  ends_same rows x resets i m q (some (back a)) s d h = same a m q (λ e. d (subst (PartOf (back a)) e again)) (s a again) h
  ends_same rows x resets i m q (some (fresh n b)) s d h =
      fresh-same rows x i n b m q (λ e. d (subst (PartOf (fresh n b)) e given)) (s b given)
  ends_same rows x resets i m q (some (sandbox a b)) s d h = inside-same resets a b m q
      (λ e. d (subst (PartOf (sandbox a b)) e inside)) (s b inside) h

-- ── A node, settled ──

-- no rule adds anything to the entries of node k
abbrev pub NodeClosed : Rows → Resources → Resets → ℕ → Option Form → List ℕ → Type 0
NodeClosed rows x resets k f t = (m q : ℕ) → least x ≤ m → m < entries_of_lem x → q < states → In (ends_of_lem rows x resets t k m q f) t (base k m + q)

module _ (rows : Rows) (x : Resources) (resets : Resets) (k : ℕ) (f : Option Form) (small : k < most_nodes) where
  entry-beside : (t u : List ℕ) (m : ℕ) → Beside k u t → Beside k (settle_entry rows x resets k f m u) t
  unfolding joined_each
  entry-beside t u m h =
      repeat-keeps (λ w. Beside k w t) (λ q w. joined_at w (base k m + q) (ends_of_lem rows x resets u k m q f)) states
      (λ q w b g j n p d c e. joined-other w (base k m + q) (ends_of_lem rows x resets u k m q f) (base j n + p) (λ z. d (omega arith))
      ∙ g j n p d c e) u h

  abbrev after : ℕ → List ℕ → List ℕ
  after i t = repeat (λ i. settle_entry rows x resets k f (least x + i)) i t

  after-beside : (i : ℕ) (t : List ℕ) → Beside k (after i t) t
  after-beside i t =
      repeat-keeps (λ u. Beside k u t) (λ i. settle_entry rows x resets k f (least x + i)) i
      (λ j u b g. entry-beside t u (least x + j) g) t
      (λ j m q d c e. refl)

  pub node-beside : (t : List ℕ) → Beside k (settle_node_lem rows x resets k f t) t
  unfolding settle_node_lem
  node-beside t = after-beside (entries_of_lem x - least x) t

  module _ (t : List ℕ) (len : length t ≡ places_of x) where
    after-length : (i : ℕ) → length (after i t) ≡ places_of x
    after-length i = (repeat-grows (λ i. settle_entry rows x resets k f (least x + i)) (λ i. entry-grows rows x resets k f (least x + i)) i t).len
        ∙ len

    -- the meanings that are settled, by the table as it was
    after-in : Placed f → (Reads f k → ⊥) → (i : ℕ) → least x + i ≤ entries_of_lem x → (m q : ℕ) → least x ≤ m → m < least x + i → q < states
        → In (ends_of_lem rows x resets t k m q f) (after i t) (base k m + q)
    unfolding repeat
    after-in s d zero h m q low high b = absurd (omega arith)
    after-in s d (suc i) h m q low high b =
        go (after i t) (after-length i) (after-beside i t) (λ c. after-in s d i (omega arith) m q low c b)
        (last-or-lower m (least x + i) (omega arith))
      where
        go : (u : List ℕ) → length u ≡ places_of x → Beside k u t → (m < least x + i → In (ends_of_lem rows x resets t k m q f) u (base k m + q))
            → (m ≡ least x + i) ⊎ (m < least x + i) → In (ends_of_lem rows x resets t k m q f) (settle_entry rows x resets k f (least x + i) u) (base k m + q)
        go u lu same ih (inl e) =
            subst (λ (n : ℕ). In (ends_of_lem rows x resets t k n q f) (settle_entry rows x resets k f (least x + i) u) (base k n + q)) (sym e)
            (subst (λ (v : ℕ). In v (settle_entry rows x resets k f (least x + i) u) (base k (least x + i) + q))
            (ends_same k u t same rows x resets k (least x + i) q f s d b)
            (each_in u (base k (least x + i)) (λ q. ends_of_lem rows x resets u k (least x + i) q f) (omega arith) q b))
        go u lu same ih (inr c) =
            each_keeps u (base k (least x + i)) (λ q. ends_of_lem rows x resets u k (least x + i) q f) (ends_of_lem rows x resets t k m q f) (base k m + q) (ih c)

    -- a node that does not read itself is done
    pub node_done : Placed f → (Reads f k → ⊥) → NodeClosed rows x resets k f (settle_node_lem rows x resets k f t)
    unfolding settle_node_lem
    node_done s d m q low high b =
        subst (λ (v : ℕ). In v (after (entries_of_lem x - least x) t) (base k m + q))
        (sym (ends_same k (after (entries_of_lem x - least x) t) t (after-beside (entries_of_lem x - least x) t) rows x resets k m q f s d b))
        (after-in s d (entries_of_lem x - least x) (omega arith) m q low (omega arith) b)

    -- and so is one that settling leaves as it is
    pub node-unchanged : settle_node_lem rows x resets k f t ≡ t → NodeClosed rows x resets k f t
    node-unchanged e m q low high b =
        still-in t (base k m + q) (ends_of_lem rows x resets t k m q f) (omega arith) (node-closed rows x resets k f t e m q low high b)

-- another node, which does not read the one that was settled, is as before
pub node_kept : (rows : Rows) (x : Resources) (resets : Resets) (k j : ℕ) (f : Option Form) (t u : List ℕ) → Beside k u t → (j ≡ k → ⊥) → j < most_nodes → Placed f
    → (Reads f k → ⊥)
    → NodeClosed rows x resets j f t → NodeClosed rows x resets j f u
node_kept rows x resets k j f t u same d small s r closed m q low high b =
    let e = same j m q d small b in
    let v = ends_same k u t same rows x resets j m q f s r b in
    ap₂ (λ (y z : ℕ). bit_or y z) e v ∙ closed m q low high b ∙ sym e
