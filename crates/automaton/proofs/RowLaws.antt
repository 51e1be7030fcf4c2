-- The laws of the tables of rows: how they are built from the edges, and that moving a set by them is moving it by the edges.
use Prim.Native.Nat.{ℕ, zero, suc, ◌+◌, ◌*◌, ◌/◌, ◌%◌, ◌^◌, ◌<◌, ◌≤◌}
use mathlib.Core.Path.{◌≡◌, refl, sym, ap, ap₂, ◌∙◌, subst}
use mathlib.Core.Bool.{Bool, true, false, ◌&&◌, cond}
use mathlib.Core.List.{List, [], ◌∷◌, ◌++◌}
use native.Mathlib.Nat.{add-zero, zero-add}
use native.Mathlib.Omega.{arith}
use native.Mathlib.Numerals.{add-one}
use lib.Dec.{eqb, ltb, lit<}
use lib.ListN.{length, get_or, set, replicate, length-set, get_or-eq_default}
use lib.Seq.{get_or-set_same, get_or-set_other, set-get_or}
use lib.Bits.{bit_or, bit_xor, or_zero_l, or_zero_r, and_le_l, and_le_r, xor_add_and}
use borrow.Author.Tests.{eq-eqb, ne_eqb, eqb-true, eqb-false, ltb-true, ltb-false, lt-ltb}
use Rattle.usage.specs.declared.Edge.{Edge}
use Rattle.usage.specs.Limits.{policies, states, edge_fields}
use Rattle.usage.specs.Tables.{from, edge_at}
use Rattle.usage.proofs.Logic.{false-true, by_cases, last-or-lower}
use Rattle.usage.proofs.TableLaws.{length_from, get_d-from, from-snoc, from-ext, is-from}
use Rattle.automaton.specs.Mask.{has, single, union}
use Rattle.automaton.specs.Move.{part, targets, image, move, labelled_at, fires, fires_at, move_mask, row_places, rows_of, rows_at, move_by}
use Rattle.automaton.specs.Code.{end_of, joined, followed, edge_ends, stayed, changed, stays_by, policy_rows_lem, stay_rows_lem, rows_in, move_by_policy}
use Rattle.automaton.proofs.MaskLaws.{or_assoc, bit_shifted, single-is, left_le, right_le, all-below, all-below-at}
use Rattle.automaton.proofs.MoveLaws.{image-lt}

-- ── Places ──

place-policy : (p q : ℕ) → q < states → (p * states + q) / states ≡ p
place-policy p q h = omega arith

place-state : (p q : ℕ) → q < states → (p * states + q) % states ≡ q
place-state p q h = omega arith

-- ── Moving by rows ──

pub union-ext : (n : ℕ) (f g : ℕ → ℕ) → ((i : ℕ) → i < n → f i ≡ g i) → union n f ≡ union n g
unfolding union
union-ext zero f g h = refl
union-ext (suc n) f g h = ap (λ (m : ℕ). bit_or m (f n)) (union-ext n f g (λ i l. h i (omega arith)))
    ∙ ap (λ (m : ℕ). bit_or (union n g) m) (h n (omega arith))

-- the eight rows held as numbers
pub move_by-held : (s : List ℕ) (k m : ℕ)
    → move_by s k m
    ≡ move_by (get_or s k 0 ∷ get_or s (k + 1) 0 ∷ get_or s (k + 2) 0 ∷ get_or s (k + 3) 0 ∷ get_or s (k + 4) 0 ∷ get_or s (k + 5) 0 ∷ get_or s
    (k + 6) 0 ∷ get_or s (k + 7) 0 ∷ []) 0 m
unfolding move_by union
move_by-held s k m = rw (add-zero k)

-- ── Rows that leave every state where it is ──

differ-none : (a b : ℕ) → bit_xor a b ≡ 0 → a ≡ b
differ-none a b e = omega (arith, xor_add_and a b, and_le_l a b, and_le_r a b)

join-none : (a b : ℕ) → bit_or a b ≡ 0 → (a ≡ 0) × (b ≡ 0)
join-none a b e = (omega (arith, left_le a b), omega (arith, right_le a b))

pub changed-none : (a b c d e f g h : ℕ) → changed a b c d e f g h ≡ 0 → (a ∷ b ∷ c ∷ d ∷ e ∷ f ∷ g ∷ h ∷ []) ≡ stay_rows_lem
changed-none a b c d e f g h z =
    let z7 = join-none _ (bit_xor h 128) z in
    let z6 = join-none _ (bit_xor g 64) z7.0 in
    let z5 = join-none _ (bit_xor f 32) z6.0 in
    let z4 = join-none _ (bit_xor e 16) z5.0 in
    let z3 = join-none _ (bit_xor d 8) z4.0 in
    let z2 = join-none _ (bit_xor c 4) z3.0 in
    let z1 = join-none (bit_xor a 1) (bit_xor b 2) z2.0 in
    rw (
      differ-none a 1 z1.0,
      differ-none b 2 z1.1,
      differ-none c 4 z2.1,
      differ-none d 8 z3.1,
      differ-none e 16 z4.1,
      differ-none f 32 z5.1,
      differ-none g 64 z6.1,
      differ-none h 128 z7.1,
    ) refl

stay-test : all-below 256 (λ m. eqb (move_by stay_rows_lem 0 m) m) ≡ true
unfolding all-below move_by union has
stay-test = refl

pub stay-moves : (m : ℕ) → m < 256 → move_by stay_rows_lem 0 m ≡ m
stay-moves m l = eqb-true (move_by stay_rows_lem 0 m) m (all-below-at 256 (λ m. eqb (move_by stay_rows_lem 0 m) m) stay-test m l)

pub stays_moved : (rows : List ℕ) → stays_by rows ≡ true → (m : ℕ) → m < 256 → move_by rows 0 m ≡ m
unfolding stays_by
stays_moved rows e m l =
    move_by-held rows 0 m
    ∙ ap (λ (r : List ℕ). move_by r 0 m)
    (changed-none (get_or rows 0 0) (get_or rows 1 0) (get_or rows 2 0) (get_or rows 3 0) (get_or rows 4 0) (get_or rows 5 0) (get_or rows 6 0)
    (get_or rows 7 0) (eqb-true _ 0 e))
    ∙ stay-moves m l

-- the rows of a policy, as they are handed on
pub rows-held : (t : List ℕ) (p : ℕ)
    → policy_rows_lem t p
    ≡ get_or t (p * states) 0 ∷ get_or t (p * states + 1) 0 ∷ get_or t (p * states + 2) 0 ∷ get_or t (p * states + 3) 0 ∷ get_or t
    (p * states + 4) 0 ∷ get_or t (p * states + 5) 0 ∷ get_or t (p * states + 6) 0 ∷ get_or t (p * states + 7) 0 ∷ []
unfolding policy_rows_lem from
rows-held t p = rw (add-zero (p * states)) refl

pub rows-policy : (t : List ℕ) (p m : ℕ) → move_by (policy_rows_lem t p) 0 m ≡ move_by t (p * states) m
rows-policy t p m = ap (λ (r : List ℕ). move_by r 0 m) (rows-held t p) ∙ sym (move_by-held t (p * states) m)

pub policy-held : (t : List ℕ) (p m : ℕ) → p < policies → move_by t (p * states) m ≡ move_by (rows_in t p) 0 m
unfolding rows_in
policy-held t p m h =
    sym (rows-policy t p m) ∙ sym (ap (λ b. move_by (cond b (policy_rows_lem t p) stay_rows_lem) 0 m) (lt-ltb p policies h))

pub rows-move : (t : List ℕ) (p m : ℕ) → m < 256 → move_by (rows_in t p) 0 m ≡ move_by_policy t p m
unfolding rows_in move_by_policy
rows-move t p m l = go (ltb p policies)
  where
    go : (b : Bool) → move_by (cond b (policy_rows_lem t p) stay_rows_lem) 0 m ≡ cond b (move_by t (p * states) m) m
    go true = rows-policy t p m
    go false = stay-moves m l

-- the eight parts of a moved set, joined in order
or-both : {u v s t : ℕ} → u ≡ v → s ≡ t → bit_or u s ≡ bit_or v t
or-both d e = ap₂ (λ (m n : ℕ). bit_or m n) d e

module _ (x : ℕ) (rows : List ℕ) where
  pub move_by-parts : (p1 p2 p3 p4 p5 p6 p7 p8 : ℕ)
      → p1 ≡ cond (eqb (x / 1 % 2) 1) (get_or rows 0 0) 0 → p2 ≡ cond (eqb (x / 2 % 2) 1) (get_or rows 1 0) 0
      → p3 ≡ cond (eqb (x / 4 % 2) 1) (get_or rows 2 0) 0 → p4 ≡ cond (eqb (x / 8 % 2) 1) (get_or rows 3 0) 0
      → p5 ≡ cond (eqb (x / 16 % 2) 1) (get_or rows 4 0) 0 → p6 ≡ cond (eqb (x / 32 % 2) 1) (get_or rows 5 0) 0
      → p7 ≡ cond (eqb (x / 64 % 2) 1) (get_or rows 6 0) 0 → p8 ≡ cond (eqb (x / 128 % 2) 1) (get_or rows 7 0) 0
      → bit_or (bit_or (bit_or (bit_or (bit_or (bit_or (bit_or p1 p2) p3) p4) p5) p6) p7) p8 ≡ move_by rows 0 x
  unfolding move_by union has
  move_by-parts p1 p2 p3 p4 p5 p6 p7 p8 e1 e2 e3 e4 e5 e6 e7 e8 =
      or-both (or-both (or-both (or-both (or-both (or-both (or-both (e1 ∙ sym (or_zero_l _)) e2) e3) e4) e5) e6) e7) e8

module _ (es : List Edge) (a r : ℕ) (mine : Bool) where
  rows-length : length (rows_of es a r mine) ≡ row_places
  unfolding rows_of
  rows-length = length_from (λ k. image (fires (k / states) a r mine) es (k % states)) 0 row_places

  rows-at : (k : ℕ) → k < row_places → get_or (rows_of es a r mine) k 0 ≡ image (fires (k / states) a r mine) es (k % states)
  unfolding rows_of
  rows-at k h = get_d-from (λ k. image (fires (k / states) a r mine) es (k % states)) 0 row_places k 0 h
      ∙ ap (λ (k : ℕ). image (fires (k / states) a r mine) es (k % states)) (zero-add k)

  rows-place : (p q : ℕ) → p < policies → q < states → get_or (rows_of es a r mine) (p * states + q) 0 ≡ image (fires p a r mine) es q
  rows-place p q h l =
      rows-at (p * states + q) (omega arith)
      ∙ ap (λ (n : ℕ). image (fires n a r mine) es ((p * states + q) % states)) (place-policy p q l)
      ∙ ap (λ (n : ℕ). image (fires p a r mine) es n) (place-state p q l)

  pub rows-lt : (k : ℕ) → get_or (rows_of es a r mine) k 0 < 256
  rows-lt k = go (ltb k row_places) refl
    where
      go : (b : Bool) → ltb k row_places ≡ b → get_or (rows_of es a r mine) k 0 < 256
      go true b =
          subst (λ (n : ℕ). n < 256) (sym (rows-at k (ltb-true k row_places b))) (image-lt (fires (k / states) a r mine) es (k % states))
      go false b =
          let e = rows-length in
          let l = ltb-false k row_places b in
          subst (λ (n : ℕ). n < 256) (sym (get_or-eq_default (rows_of es a r mine) 0 (omega arith))) (lit< tt)

  -- a set is moved by the rows of its policy as it is moved by the edges
  pub move_by-rows : (p m : ℕ) → p < policies → move_by (rows_of es a r mine) (p * states) m ≡ move_mask es p a r mine m
  unfolding move_by move_mask move
  move_by-rows p m h =
      union-ext states (λ q. cond (has m q) (get_or (rows_of es a r mine) (p * states + q) 0) 0)
      (λ q. cond (has m q) (image (fires p a r mine) es q) 0)
      (λ q l. ap (λ (n : ℕ). cond (has m q) n 0) (rows-place p q h l))

-- ── The ends of one more edge ──

targets-snoc : (f : Edge → Bool) (es : List Edge) (e : Edge) (q : ℕ) → targets f (es ++ (e ∷ [])) q ≡ bit_or (targets f es q) (part f q e)
unfolding targets
targets-snoc f [] e q = or_zero_r (part f q e) ∙ sym (or_zero_l (part f q e))
targets-snoc f (d ∷ es) e q = ap (λ (m : ℕ). bit_or (part f q d) m) (targets-snoc f es e q)
    ∙ sym (or_assoc (part f q d) (targets f es q) (part f q e))

edges_more : (t : List ℕ) (i : ℕ) → from (edge_at t) 0 (suc i) ≡ from (edge_at t) 0 i ++ (edge_at t i ∷ [])
edges_more t i = from-snoc (edge_at t) 0 i ∙ ap (λ (j : ℕ). from (edge_at t) 0 i ++ (edge_at t j ∷ [])) (zero-add i)

-- the tests of an edge: of its policy (b), action (c), label (l) and state (d)
gate-on : (b c l d : Bool) → b ≡ true → c ≡ true → d ≡ true → (((b && c) && l) && d) ≡ l
gate-on true true true true p q s = refl
gate-on true true false true p q s = refl
gate-on true true l false p q s = false-true s
gate-on true false l d p q s = false-true q
gate-on false c l d p q s = false-true p

gate-off : (b c l d : Bool) → (c && (b && d)) ≡ false → (((b && c) && l) && d) ≡ false
gate-off false c l d e = refl
gate-off true false l d e = refl
gate-off true true true d e = e
gate-off true true false d e = refl

module _ (es : List Edge) (e : Edge) (a r : ℕ) (first second : Bool) where
  abbrev old : ℕ → ℕ
  old k = targets (fires_at (k / states) a r first second) es (k % states)

  abbrev new : ℕ → ℕ
  new k = targets (fires_at (k / states) a r first second) (es ++ (e ∷ [])) (k % states)

  -- the edge leaves the state of place k, and has the action
  abbrev tests : ℕ → Bool
  tests k = eqb e.action a && (eqb e.policy (k / states) && eqb e.from (k % states))

  unmet : (k : ℕ) → tests k ≡ false → new k ≡ old k
  unmet k h =
      targets-snoc (fires_at (k / states) a r first second) es e (k % states)
      ∙ ap (λ b. bit_or (old k) (cond b (single e.to) 0))
      (gate-off (eqb e.policy (k / states)) (eqb e.action a) (labelled_at e.on e.who first second r) (eqb e.from (k % states)) h)
      ∙ or_zero_r (old k)

  met : (k : ℕ) → e.action ≡ a → e.policy ≡ k / states → e.from ≡ k % states
      → new k ≡ bit_or (old k) (end_of e.on e.who e.to first second r)
  met k x y z =
      targets-snoc (fires_at (k / states) a r first second) es e (k % states)
      ∙ ap (λ b. bit_or (old k) (cond b (single e.to) 0))
      (gate-on (eqb e.policy (k / states)) (eqb e.action a) (labelled_at e.on e.who first second r) (eqb e.from (k % states))
      (eq-eqb _ _ y) (eq-eqb _ _ x) (eq-eqb _ _ z))

  -- an edge with another action adds nothing
  ends-other : (e.action ≡ a → ⊥) → edge_ends (es ++ (e ∷ [])) a r first second ≡ edge_ends es a r first second
  unfolding edge_ends
  ends-other h =
      from-ext new old 0 row_places
      (λ i l. unmet (0 + i) (ap (λ b. b && (eqb e.policy ((0 + i) / states) && eqb e.from ((0 + i) % states))) (ne_eqb _ _ h)))

  -- an edge with the action is joined at its place, where it has one
  ends-joined : e.action ≡ a
      → joined (edge_ends es a r first second) e.policy e.from (end_of e.on e.who e.to first second r) ≡ edge_ends (es ++ (e ∷ [])) a r first second
  unfolding joined edge_ends
  ends-joined x = go (ltb e.policy policies) (ltb e.from states) refl refl
    where
      at : ℕ
      at = e.policy * states + e.from

      all : List ℕ
      all = from old 0 row_places

      more : List ℕ
      more = set all at (bit_or (get_or all at 0) (end_of e.on e.who e.to first second r))

      all-length : length all ≡ row_places
      all-length = length_from old 0 row_places

      all-at : (k : ℕ) → k < row_places → get_or all k 0 ≡ old k
      all-at k l = get_d-from old 0 row_places k 0 l ∙ ap old (zero-add k)

      elsewhere : (k : ℕ) → ((e.policy ≡ k / states) × (e.from ≡ k % states) → ⊥) → tests k ≡ false
      elsewhere k n =
          both (eqb e.action a) (eqb e.policy (k / states)) (eqb e.from (k % states)) (λ y z. n (eqb-true _ _ y, eqb-true _ _ z))
        where
          both : (x b d : Bool) → (b ≡ true → d ≡ true → ⊥) → (x && (b && d)) ≡ false
          both false b d f = refl
          both true false d f = refl
          both true true false f = refl
          both true true true f = absurd (f refl refl)

      each : e.policy < policies → e.from < states → (k : ℕ) → k < row_places → (b : Bool) → eqb k at ≡ b → get_or more k 0 ≡ new k
      each y z k l true b =
          let i : k ≡ at = eqb-true k at b in
          let j : at < row_places = omega arith in
          ap (λ (n : ℕ). get_or more n 0) i
          ∙ get_or-set_same all at _ 0 (subst (λ (n : ℕ). at < n) (sym all-length) j)
          ∙ ap (λ (n : ℕ). bit_or n (end_of e.on e.who e.to first second r)) (all-at at j)
          ∙ sym (met at x (sym (place-policy e.policy e.from z)) (sym (place-state e.policy e.from z)))
          ∙ ap new (sym i)
      each y z k l false b =
          let i = eqb-false k at b in
          get_or-set_other all at k _ 0 i ∙ all-at k l ∙ sym (unmet k (elsewhere k (λ w. let u = w.0 in let v = w.1 in i (omega arith))))

      go : (b d : Bool) → ltb e.policy policies ≡ b → ltb e.from states ≡ d → cond (b && d) more all ≡ from new 0 row_places
      go true true y z =
          is-from new 0 row_places more (length-set all at _ ∙ all-length)
          (λ k l. each (ltb-true _ _ y) (ltb-true _ _ z) k l (eqb k at) refl)
      go true false y z =
          from-ext old new 0 row_places
          (λ i l. sym (unmet (0 + i) (elsewhere (0 + i) (λ w. let u = w.1 in let v = ltb-false e.from states z in omega arith))))
      go false d y z =
          from-ext old new 0 row_places
          (λ i l. sym
          (unmet (0 + i) (elsewhere (0 + i) (λ w. let u = w.0 in let v = ltb-false e.policy policies y in omega arith))))

-- an edge is followed exactly where it has the action
module _ (t : List ℕ) (e : Edge) (a r : ℕ) (first second : Bool) where
  pub followed-met : e.action ≡ a → followed t e a r first second ≡ joined t e.policy e.from (end_of e.on e.who e.to first second r)
  unfolding followed
  followed-met q = ap (λ b. cond b (joined t e.policy e.from (end_of e.on e.who e.to first second r)) t) (eq-eqb _ _ q)

  pub followed-unmet : (e.action ≡ a → ⊥) → followed t e a r first second ≡ t
  unfolding followed
  followed-unmet q = ap (λ b. cond b (joined t e.policy e.from (end_of e.on e.who e.to first second r)) t) (ne_eqb _ _ q)

-- the same over the first i edges of a table
module _ (t : List ℕ) (a r : ℕ) (first second : Bool) where
  pub ends-none : replicate row_places 0 ≡ edge_ends (from (edge_at t) 0 0) a r first second
  unfolding edge_ends from targets
  ends-none = refl

  -- one more edge
  pub ends_more : (i : ℕ) (s : List ℕ) → s ≡ edge_ends (from (edge_at t) 0 i) a r first second
      → followed s (edge_at t i) a r first second ≡ edge_ends (from (edge_at t) 0 (i + 1)) a r first second
  ends_more i s d = rw (d, add-one i, edges_more t i) (go (eqb (edge_at t i).action a) refl)
    where
      old : List ℕ
      old = edge_ends (from (edge_at t) 0 i) a r first second

      go : (b : Bool) → eqb (edge_at t i).action a ≡ b
          → followed old (edge_at t i) a r first second ≡ edge_ends (from (edge_at t) 0 i ++ (edge_at t i ∷ [])) a r first second
      go true q =
          let x = eqb-true (edge_at t i).action a q in
          followed-met old (edge_at t i) a r first second x ∙ ends-joined (from (edge_at t) 0 i) (edge_at t i) a r first second x
      go false q =
          let x = eqb-false (edge_at t i).action a q in
          followed-unmet old (edge_at t i) a r first second x ∙ sym (ends-other (from (edge_at t) 0 i) (edge_at t i) a r first second x)

  -- four more
  pub ends-four : (i : ℕ) (s s₁ s₂ s₃ s₄ : List ℕ) → s ≡ edge_ends (from (edge_at t) 0 (4 * i)) a r first second
      → s₁ ≡ followed s (edge_at t (4 * i)) a r first second → s₂ ≡ followed s₁ (edge_at t (4 * i + 1)) a r first second
      → s₃ ≡ followed s₂ (edge_at t (4 * i + 2)) a r first second → s₄ ≡ followed s₃ (edge_at t (4 * i + 3)) a r first second
      → s₄ ≡ edge_ends (from (edge_at t) 0 (4 * (i + 1))) a r first second
  ends-four i s s₁ s₂ s₃ s₄ e e₁ e₂ e₃ e₄ =
      let f₁ = e₁ ∙ ends_more (4 * i) s e in
      let f₂ = e₂ ∙ ends_more (4 * i + 1) s₁ f₁ ∙ again (4 * i + 1 + 1) (4 * i + 2) (omega arith) in
      let f₃ = e₃ ∙ ends_more (4 * i + 2) s₂ f₂ ∙ again (4 * i + 2 + 1) (4 * i + 3) (omega arith) in
      e₄ ∙ ends_more (4 * i + 3) s₃ f₃ ∙ again (4 * i + 3 + 1) (4 * (i + 1)) (omega arith)
    where
      again : (m n : ℕ) → m ≡ n → edge_ends (from (edge_at t) 0 m) a r first second ≡ edge_ends (from (edge_at t) 0 n) a r first second
      again m n q = ap (λ (n : ℕ). edge_ends (from (edge_at t) 0 n) a r first second) q

  -- an action that no edge has
  pub ends-wide : (n : ℕ) → ((k : ℕ) → get_or t k 0 < a) → replicate row_places 0 ≡ edge_ends (from (edge_at t) 0 n) a r first second
  ends-wide zero h = ends-none
  ends-wide (suc n) h = ends-wide n h
      ∙ rw (edges_more t n) (sym (ends-other (from (edge_at t) 0 n) (edge_at t n) a r first second
      (λ e. absurd (omega (arith, e, h (edge_fields * n + 2))))))

-- joining the empty set changes nothing
pub joined-none : (t : List ℕ) (p q : ℕ) → joined t p q 0 ≡ t
unfolding joined
joined-none t p q = by_cond (ltb p policies && ltb q states)
  where
    by_cond : (b : Bool) → cond b (set t (p * states + q) (bit_or (get_or t (p * states + q) 0) 0)) t ≡ t
    by_cond true = ap (set t (p * states + q)) (or_zero_r (get_or t (p * states + q) 0)) ∙ set-get_or t (p * states + q) 0
    by_cond false = refl

-- ── States that stay ──

abbrev stay_at : List ℕ → ℕ → ℕ
stay_at t k = cond (eqb (get_or t k 0) 0) (single (k % states)) (get_or t k 0)

-- the table s is t, with the places below k as they are to be
pub record Staying (t s : List ℕ) (k : ℕ) : Type 0 where
  pub size : length s ≡ length t
  pub done : (j : ℕ) → j < k → get_or s j 0 ≡ stay_at t j
  pub ahead : (j : ℕ) → k ≤ j → get_or s j 0 ≡ get_or t j 0

module _ (t : List ℕ) where
  pub staying-none : Staying t t 0
  staying-none = record { size = refl; done = λ j l. absurd (omega arith); ahead = λ j l. refl }

  pub staying-all : (s : List ℕ) → length t ≡ row_places → Staying t s row_places → s ≡ stayed t
  unfolding stayed
  staying-all s e h = is-from (stay_at t) 0 row_places s (h.size ∙ e) h.done

  module _ (s : List ℕ) (k : ℕ) (h : Staying t s k) where
    -- one more place: what it holds, or its state where it holds nothing
    pub staying-more : k < length t → Staying t (set s k (cond (eqb (get_or s k 0) 0) (single (k % states)) (get_or s k 0))) (k + 1)
    staying-more b = record {
      size = length-set s k _ ∙ h.size;
      done = λ j l. by_cases (last-or-lower j k (omega arith))
          (λ e. rw e
          (get_or-set_same s k _ 0 (subst (λ (m : ℕ). k < m) (sym h.size) b)
          ∙ ap (λ (v : ℕ). cond (eqb v 0) (single (k % states)) v) (h.ahead k (omega arith))))
          (λ i. get_or-set_other s k j _ 0 (λ z. omega arith) ∙ h.done j i);
      ahead = λ j l. get_or-set_other s k j _ 0 (λ z. omega arith) ∙ h.ahead j (omega arith);
    }

pub ends-length : (es : List Edge) (a r : ℕ) (first second : Bool) → length (edge_ends es a r first second) ≡ row_places
unfolding edge_ends
ends-length es a r first second = length_from (λ k. targets (fires_at (k / states) a r first second) es (k % states)) 0 row_places

-- the ends, with the states that stay, are the rows
pub stayed-rows : (es : List Edge) (a r : ℕ) (first second : Bool) → stayed (edge_ends es a r first second) ≡ rows_at es a r first second
unfolding stayed edge_ends rows_at image
stayed-rows es a r first second =
    from-ext (stay_at (from ends 0 row_places)) (λ k. cond (eqb (ends k) 0) (single (k % states)) (ends k)) 0 row_places
    (λ i l. ap (λ (n : ℕ). cond (eqb n 0) (single ((0 + i) % states)) n)
    (get_d-from ends 0 row_places (0 + i) 0 (omega arith) ∙ ap ends (zero-add (0 + i))))
  where
    ends : ℕ → ℕ
    ends k = targets (fires_at (k / states) a r first second) es (k % states)

-- a bit shifted to a state's place is the set of that state
pub shifted-single : (q : ℕ) → q < states → 1 * 2 ^ q % 2 ^ 8 ≡ single q
shifted-single q h = bit_shifted q h ∙ sym (single-is q h)

-- an `on` above 3 matches nothing
pub label-none : (on who : ℕ) (first second : Bool) (r : ℕ) → (on ≡ 0 → ⊥) → (on ≡ 1 → ⊥) → (on ≡ 2 → ⊥) → (on ≡ 3 → ⊥)
    → labelled_at on who first second r ≡ false
label-none zero who first second r x y z w = absurd (x refl)
label-none (suc zero) who first second r x y z w = absurd (y refl)
label-none (suc (suc zero)) who first second r x y z w = absurd (z refl)
label-none (suc (suc (suc zero))) who first second r x y z w = absurd (w refl)
label-none (suc (suc (suc (suc k)))) who first second r x y z w = refl
