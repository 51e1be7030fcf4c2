-- Filling the table of what is come to: each step of it only joins sets, and none where the node is not come to.
use Prim.Native.Nat.{ℕ, zero, suc, ◌+◌, ◌-◌, ◌*◌, ◌/◌, ◌%◌, ◌<◌, ◌≤◌}
use mathlib.Core.Path.{◌≡◌, refl, sym, ap, ap₂, ◌∙◌, subst}
use mathlib.Core.Bool.{Bool, true, false, cond}
use mathlib.Core.Option.{Option, none, some}
use mathlib.Core.List.Memᴰ
use mathlib.Core.List.{List, [], ◌∷◌, Memᴰ}
use mathlib.Core.Logic.{◌⊎◌, inl, inr}
use native.Mathlib.Omega.{arith}
use lib.Bits.{bit_or, or_zero_l, or_zero_r}
use lib.ListN.{get_or, set}
use lib.Seq.{set-get_or}
use borrow.Author.Tests.{eq-eqb, ne_eqb}
use Rattle.usage.specs.Limits.{states}
use Rattle.usage.specs.Outline.{Form, end, static_event, named_event, sequence, choice, loop, back, fresh, sandbox}
use Rattle.automaton.specs.Mask.{has, union}
use Rattle.automaton.proofs.MaskLaws.{has-zero}
use Rattle.checker_account.specs.declared.Arrival.{Arrival}
use Rattle.checker_account.specs.Account.{watched, watched_too, others}
use Rattle.checker_account.specs.declared.Resources.{Resources}
use Rattle.checker_account.specs.Tables.{made, meaning_in, late_group, waits, in_group_lem, least, codes_of, Rows, row_on, base, half, begun}
use Rattle.checker_account.specs.Tables.{is_reset, place, over, halves, second_arrivals, fresh_arrivals, arrivals, joined_at}
use Rattle.checker_account.specs.Holds.{Each}
use Rattle.checker_account.specs.Filling.{
  Forms,
  Derived,
  joins,
  entered,
  arrivals_of,
  ComesRule,
  leads_to,
  pass,
  odd,
  pass_node_lem,
  pass_round_lem,
}
use Rattle.checker_account.proofs.MaskLaws.{restarted-none}
use Rattle.checker_account.proofs.ComesTable.{each-if}
use Rattle.checker_account.proofs.GrowsLaws.{Grows, grows_self, grows-trans, grows-still, joined-grows, repeat-grows}
use Rattle.checker_account.proofs.GrowsLaws.{repeat-keeps, repeat-still}

pub entered-grows : (gs : List Arrival) (u : List ℕ) → Grows u (entered gs u)
unfolding entered
entered-grows [] u = grows_self u
entered-grows (g ∷ gs) u =
    grows-trans (joined-grows u (place g.to g.opened g.meaning) g.states)
    (entered-grows gs (joined_at u (place g.to g.opened g.meaning) g.states))

-- ── A node that is not come to leads to nothing ──

union-none : (f : ℕ → ℕ) (n : ℕ) → union n (λ q. cond (has 0 q) (f q) 0) ≡ 0
unfolding union
union-none f zero = refl
union-none f (suc n) =
    ap₂ (λ (a b : ℕ). bit_or a b) (union-none f n) (ap (λ (b : Bool). cond b (f n) 0) (has-zero n)) ∙ or_zero_l 0

over_none : (f : ℕ → ℕ) → over f 0 ≡ 0
unfolding over
over_none f = union-none f states

created-none : (b : Bool) (f : ℕ → ℕ) → cond b 0 (over f 0) ≡ 0
created-none true f = refl
created-none false f = over_none f

abbrev Nothing : Arrival → Type 0
Nothing g = g.states ≡ 0

seconds-none : (t : List ℕ) (a b : ℕ) (o : Bool) (c : ℕ) → Each Nothing (second_arrivals t a b o c 0)
unfolding second_arrivals
seconds-none t a b o c =
    let e = over_none (λ q. get_or t (base a c + q) 0) in
    let f = over_none (λ q. get_or t (base a (in_group_lem late_group c) + q) 0) in (
      ap (half false) e,
      (
        ap (half true) e,
        each-if Nothing (waits c) (halves b o (in_group_lem 0 c) (begun t a (in_group_lem late_group c) 0) [])
            (λ w. (ap (half false) f, (ap (half true) f, tt))),
      ),
    )

freshes-none : (rows : Rows) (x : Resources) (k n b : ℕ) (o : Bool) (c : ℕ) → Each Nothing (fresh_arrivals rows x k n b o c 0)
unfolding fresh_arrivals
freshes-none rows x k n b o c = (
  over_none (row_on rows x k others),
  (
    created-none (made (meaning_in c)) (row_on rows x k watched),
    each-if Nothing (waits c) (_ ∷ []) (λ w. (over_none (row_on rows x k watched_too), tt)),
  ),
)

joined-none : (u : List ℕ) (i v : ℕ) → v ≡ 0 → joined_at u i v ≡ u
unfolding joined_at
joined-none u i v e = ap (set u i) (ap (bit_or (get_or u i 0)) e ∙ or_zero_r (get_or u i 0)) ∙ set-get_or u i 0

entered-none : (gs : List Arrival) (u : List ℕ) → Each (λ g. g.states ≡ 0) gs → entered gs u ≡ u
unfolding entered
entered-none [] u h = refl
entered-none (g ∷ gs) u (e, h) =
    ap (entered gs) (joined-none u (place g.to g.opened g.meaning) g.states e) ∙ entered-none gs u h

none-arrives : (local : Bool) (rows : Rows) (p : ℕ) (x : Resources) (t : List ℕ) (k : ℕ) (o : Bool) (m : ℕ) (f : Option Form)
    → Each (λ g. g.states ≡ 0) (arrivals_of local rows p x t k o m 0 f)
unfolding arrivals
none-arrives local rows p x t k o m none = tt
none-arrives local rows p x t k o m (some end) = tt
none-arrives local rows p x t k o m (some (static_event a s)) = tt
none-arrives local rows p x t k o m (some (named_event a n)) = tt
none-arrives local rows p x t k o m (some (sequence a b)) =
    (refl, seconds-none t a b o m)
none-arrives local rows p x t k o m (some (choice a b)) = (refl, (refl, tt))
none-arrives local rows p x t k o m (some (loop a)) = (refl, tt)
none-arrives local rows p x t k o m (some (back a)) = (refl, tt)
none-arrives local rows p x t k o m (some (fresh n b)) = freshes-none rows x k n b o m
none-arrives local rows p x t k o m (some (sandbox s b)) = (restarted-none (is_reset local p s o), tt)

pub pass-none : (local : Bool) (rows : Rows) (p : ℕ) (x : Resources) (t : List ℕ) (k : ℕ) (f : Option Form) (o : Bool) (m v : ℕ) (u : List ℕ)
    → v ≡ 0 → entered (arrivals_of local rows p x t k o m v f) u ≡ u
pass-none local rows p x t k f o m v u e =
    ap (λ (n : ℕ). entered (arrivals_of local rows p x t k o m n f) u) e
    ∙ entered-none (arrivals_of local rows p x t k o m 0 f) u (none-arrives local rows p x t k o m f)

-- ── They grow ──

module _ (local : Bool) (rows : Rows) (p : ℕ) (x : Resources) where
  pub pass-grows : (t : List ℕ) (k : ℕ) (f : Option Form) (o : Bool) (m : ℕ) (u : List ℕ) → Grows u (pass local rows p x t k f o m u)
  pass-grows t k f o m u = entered-grows (arrivals_of local rows p x t k o m (get_or u (place k o m) 0) f) u

module _ (local : Bool) (rows : Rows) (p : ℕ) (x : Resources) (t : Bool → List ℕ) where
  pub pass-node-grows : (k : ℕ) (f : Option Form) (u : List ℕ) → Grows u (pass_node_lem local rows p x t k f u)
  unfolding pass_node_lem
  pass-node-grows k f u =
      repeat-grows (λ i. pass local rows p x (t (odd i)) k f (odd i) (least x + i / 2))
      (λ i. pass-grows local rows p x (t (odd i)) k f (odd i) (least x + i / 2)) (2 * (codes_of x - least x)) u

  pub pass-round-grows : (n : ℕ) (forms : Forms) (u : List ℕ) → Grows u (pass_round_lem local rows p x t n forms u)
  unfolding pass_round_lem
  pass-round-grows n forms u = repeat-grows (λ k. pass_node_lem local rows p x t k (forms k)) (λ k. pass-node-grows k (forms k)) n u

-- ── They derive, and where a round changes nothing, no rule adds anything ──

-- what holds of each arrival
pub each_at : (P : Arrival → Type 0) (gs : List Arrival) (g : Arrival) → Each P gs → Memᴰ g gs → P g
each_at P [] g h m = absurd (Memᴰ.not-nil m)
each_at P (f ∷ gs) g (h, hs) m = go (each_at P gs g hs) (Memᴰ.cases_cons m)
  where
    go : (Memᴰ g gs → P g) → (g ≡ f) ⊎ Memᴰ g gs → P g
    go ih (inl e) = subst P (sym e) h
    go ih (inr d) = ih d

pub each_all : (P : Arrival → Type 0) (gs : List Arrival) → ((g : Arrival) → Memᴰ g gs → P g) → Each P gs
each_all P [] h = tt
each_all P (g ∷ gs) h = (h g (Memᴰ.head refl), each_all P gs (λ f m. h f (Memᴰ.tail m)))

entered-still : (gs : List Arrival) (u : List ℕ) → entered gs u ≡ u
    → Each (λ g. joined_at u (place g.to g.opened g.meaning) g.states ≡ u) gs
unfolding entered
entered-still [] u e = tt
entered-still (g ∷ gs) u e =
    let w = joined_at u (place g.to g.opened g.meaning) g.states in
    let a = joined-grows u (place g.to g.opened g.meaning) g.states in
    let b = entered-grows gs w in
    let same : w ≡ u = grows-still a b e in
    (same, entered-still gs u (ap (entered gs) (sym same) ∙ e))

-- the turn of the loop over a node at which it is passed with o and the m-th meaning
turn_of : Bool → ℕ → ℕ
turn_of false m = 2 * m
turn_of true m = 2 * m + 1

turn_odd : (o : Bool) (m : ℕ) → odd (turn_of o m) ≡ o
unfolding turn_of
turn_odd false m = ne_eqb (2 * m % 2) 1 (λ e. omega arith)
turn_odd true m = eq-eqb ((2 * m + 1) % 2) 1 (omega arith)

turn-half : (o : Bool) (m : ℕ) → turn_of o m / 2 ≡ m
unfolding turn_of
turn-half false m = omega arith
turn-half true m = omega arith

turn_small : (o : Bool) (m n : ℕ) → m < n → turn_of o m < 2 * n
unfolding turn_of
turn_small false m n h = omega arith
turn_small true m n h = omega arith

module _ (local : Bool) (rows : Rows) (p : ℕ) (x : Resources) (t : Bool → List ℕ) (n : ℕ) (forms : Forms) where
  module _ (u₀ : List ℕ) where
    abbrev Made : List ℕ → Type 0
    Made = Derived (ComesRule local rows p x t n forms) u₀

    entered-derived : (by : List ℕ) → Made by → (gs : List Arrival)
        → ((g : Arrival) → Memᴰ g gs → ComesRule local rows p x t n forms by (place g.to g.opened g.meaning) g.states)
        → (u : List ℕ) → Made u → Made (entered gs u)
    unfolding entered
    entered-derived by b [] h u d = d
    entered-derived by b (g ∷ gs) h u d =
        entered-derived by b gs (λ f m. h f (Memᴰ.tail m)) (joined_at u (place g.to g.opened g.meaning) g.states)
        (joins d b (h g (Memᴰ.head refl)))

    pass-derived : (k : ℕ) (o : Bool) (m : ℕ) (u : List ℕ) → k < n → least x ≤ m → m < codes_of x → Made u
        → Made (pass local rows p x (t o) k (forms k) o m u)
    pass-derived k o m u b low high d =
        entered-derived u d (arrivals_of local rows p x (t o) k o m (get_or u (place k o m) 0) (forms k))
        (λ g i. leads_to k o m g b low high i) u d

    pass-node-derived : (k : ℕ) (u : List ℕ) → k < n → Made u → Made (pass_node_lem local rows p x t k (forms k) u)
    unfolding pass_node_lem
    pass-node-derived k u b d =
        repeat-keeps Made (λ i. pass local rows p x (t (odd i)) k (forms k) (odd i) (least x + i / 2)) (2 * (codes_of x - least x))
        (λ i u h d. pass-derived k (odd i) (least x + i / 2) u b (omega arith) (omega arith) d) u d

    pub pass-round-derived : (u : List ℕ) → Made u → Made (pass_round_lem local rows p x t n forms u)
    unfolding pass_round_lem
    pass-round-derived u d = repeat-keeps Made (λ k. pass_node_lem local rows p x t k (forms k)) n (λ k u h d. pass-node-derived k u h d) u d

  module _ (u : List ℕ) (still : pass_round_lem local rows p x t n forms u ≡ u) where
    pass-still : (k : ℕ) (o : Bool) (m : ℕ) → k < n → least x ≤ m → m < codes_of x → pass local rows p x (t o) k (forms k) o m u ≡ u
    unfolding pass_round_lem pass_node_lem
    pass-still k o m b low high =
        let node : pass_node_lem local rows p x t k (forms k) u ≡ u =
        repeat-still (λ k. pass_node_lem local rows p x t k (forms k)) (λ k. pass-node-grows local rows p x t k (forms k)) n u still k b in
        let i = turn_of o (m - least x) in
        let one = repeat-still (λ i. pass local rows p x (t (odd i)) k (forms k) (odd i) (least x + i / 2))
        (λ i. pass-grows local rows p x (t (odd i)) k (forms k) (odd i) (least x + i / 2)) (2 * (codes_of x - least x)) u node i
        (turn_small o (m - least x) (codes_of x - least x) (omega arith)) in
        let em : least x + i / 2 ≡ m = ap (λ (j : ℕ). least x + j) (turn-half o (m - least x)) ∙ omega arith in
        subst (λ (j : ℕ). pass local rows p x (t o) k (forms k) o j u ≡ u) em
        (subst (λ (b : Bool). pass local rows p x (t b) k (forms k) b (least x + i / 2) u ≡ u) (turn_odd o (m - least x)) one)

    pub pass-round-closed : (i v : ℕ) → ComesRule local rows p x t n forms u i v → joined_at u i v ≡ u
    pass-round-closed i v (leads_to k o m g b low high mem) =
        let gs = arrivals_of local rows p x (t o) k o m (get_or u (place k o m) 0) (forms k) in
        each_at (λ g. joined_at u (place g.to g.opened g.meaning) g.states ≡ u) gs g
        (entered-still gs u (pass-still k o m b low high)) mem
