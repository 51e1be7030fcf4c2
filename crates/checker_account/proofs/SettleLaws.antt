-- Filling the table of ends: each step of it only joins sets, and those that the rules give, and keeps the entries within 16 bits.
use Prim.Native.Nat.{ℕ, zero, suc, ◌+◌, ◌-◌, ◌^◌, ◌<◌, ◌≤◌}
use mathlib.Core.Path.{◌≡◌, ap, subst}
use mathlib.Core.Bool.{Bool, true, false, cond}
use mathlib.Core.Option.{Option, none, some}
use mathlib.Core.List.{List}
use native.Mathlib.Omega.{arith}
use lib.Dec.{eqb, lit<}
use lib.Bits.{bit_or, or_lt}
use lib.ListN.{get_or}
use Rattle.usage.specs.Limits.{states}
use Rattle.usage.specs.Outline.{Form, end, static_event, named_event, sequence, choice, loop, back, fresh, sandbox}
use Rattle.automaton.specs.Mask.{has, union}
use Rattle.checker_account.specs.declared.Resources.{Resources}
use Rattle.checker_account.specs.Tables.{made, meaning_in, waiting_group, is_late_lem, in_group_lem, least, entries_of_lem, base, kept, kept_in, Rows, Resets, never, opening_of}
use Rattle.checker_account.specs.Tables.{in_turn, sequence_ends_lem, fresh_ends_lem, inside_ends_lem, ends_by_lem, over, joined_at}
use Rattle.checker_account.specs.Filling.{
  Forms,
  Derived,
  joins,
  joined_each,
  ends_of_lem,
  EndsRule,
  ends_of,
  settle_entry,
  settle_node_lem,
  settle_round,
}
use Rattle.checker_account.specs.Filling.{Wide}
use Rattle.checker_account.proofs.GrowsLaws.{Grows, joined-grows, repeat-grows, repeat-keeps, repeat-still, repeat-same}
use Rattle.checker_account.proofs.JoinLaws.{set-wide}

-- ── They grow ──

module _ (t : List ℕ) (i : ℕ) (f : ℕ → ℕ) where
  pub each-grows : Grows t (joined_each t i f)
  unfolding joined_each
  each-grows = repeat-grows (λ q u. joined_at u (i + q) (f q)) (λ q u. joined-grows u (i + q) (f q)) states t

  pub each-still : joined_each t i f ≡ t → (q : ℕ) → q < states → joined_at t (i + q) (f q) ≡ t
  unfolding joined_each
  each-still e q l = repeat-still (λ q u. joined_at u (i + q) (f q)) (λ q u. joined-grows u (i + q) (f q)) states t e q l

  pub each_same : (g : ℕ → ℕ) → ((q : ℕ) → q < states → f q ≡ g q) → joined_each t i f ≡ joined_each t i g
  unfolding joined_each
  each_same g h =
      repeat-same (λ q u. joined_at u (i + q) (f q)) (λ q u. joined_at u (i + q) (g q)) states (λ q u l. ap (joined_at u (i + q)) (h q l)) t

pub entry-grows : (rows : Rows) (x : Resources) (resets : Resets) (k : ℕ) (f : Option Form) (m : ℕ) (t : List ℕ)
    → Grows t (settle_entry rows x resets k f m t)
entry-grows rows x resets k f m t = each-grows t (base k m) (λ q. ends_of_lem rows x resets t k m q f)

pub node-grows : (rows : Rows) (x : Resources) (resets : Resets) (k : ℕ) (f : Option Form) (t : List ℕ)
    → Grows t (settle_node_lem rows x resets k f t)
unfolding settle_node_lem
node-grows rows x resets k f t =
    repeat-grows (λ i. settle_entry rows x resets k f (least x + i)) (λ i. entry-grows rows x resets k f (least x + i)) (entries_of_lem x - least x) t

-- ── They derive, and where a round changes nothing, no rule adds anything ──

-- one start of a node that settling leaves as it is
pub node-closed : (rows : Rows) (x : Resources) (resets : Resets) (k : ℕ) (f : Option Form) (t : List ℕ) → settle_node_lem rows x resets k f t ≡ t
    → (m q : ℕ) → least x ≤ m
    → m < entries_of_lem x
    → q < states → joined_at t (base k m + q) (ends_of_lem rows x resets t k m q f) ≡ t
unfolding settle_node_lem
node-closed rows x resets k f t still m q low high lq =
    let e : least x + (m - least x) ≡ m = omega arith in
    each-still t (base k m) (λ q. ends_of_lem rows x resets t k m q f)
    (subst (λ (j : ℕ). settle_entry rows x resets k f j t ≡ t) e
    (repeat-still (λ i. settle_entry rows x resets k f (least x + i)) (λ i. entry-grows rows x resets k f (least x + i)) (entries_of_lem x - least x) t still
    (m - least x)
    (omega arith))) q lq

module _ (rows : Rows) (x : Resources) (resets : Resets) (n : ℕ) (forms : Forms) where
  module _ (t₀ : List ℕ) where
    abbrev Made : List ℕ → Type 0
    Made = Derived (EndsRule rows x resets n forms) t₀

    entry-derived : (k m : ℕ) (t : List ℕ) → k < n → least x ≤ m → m < entries_of_lem x → Made t → Made (settle_entry rows x resets k (forms k) m t)
    unfolding joined_each
    entry-derived k m t b low high d =
        repeat-keeps Made (λ q u. joined_at u (base k m + q) (ends_of_lem rows x resets t k m q (forms k))) states
        (λ q u h e. joins e d (ends_of k m q b low high h)) t d

    pub node-derived : (k : ℕ) (t : List ℕ) → k < n → Made t → Made (settle_node_lem rows x resets k (forms k) t)
    unfolding settle_node_lem
    node-derived k t b d =
        repeat-keeps Made (λ i. settle_entry rows x resets k (forms k) (least x + i)) (entries_of_lem x - least x)
        (λ i t h d. entry-derived k (least x + i) t b (omega arith) (omega arith) d) t d

    pub round-derived : (t : List ℕ) → Made t → Made (settle_round rows x resets n forms t)
    unfolding settle_round
    round-derived t d =
        repeat-keeps Made (λ i. settle_node_lem rows x resets (n - 1 - i) (forms (n - 1 - i))) n
        (λ i t h d. node-derived (n - 1 - i) t (omega arith) d) t d

  module _ (t : List ℕ) (still : settle_round rows x resets n forms t ≡ t) where
    node-still : (k : ℕ) → k < n → settle_node_lem rows x resets k (forms k) t ≡ t
    unfolding settle_round
    node-still k b =
        let e : n - 1 - (n - 1 - k) ≡ k = omega arith in
        subst (λ (j : ℕ). settle_node_lem rows x resets j (forms j) t ≡ t) e
        (repeat-still (λ i. settle_node_lem rows x resets (n - 1 - i) (forms (n - 1 - i)))
        (λ i. node-grows rows x resets (n - 1 - i) (forms (n - 1 - i))) n t still (n - 1 - k) (omega arith))

    pub round-closed : (i v : ℕ) → EndsRule rows x resets n forms t i v → joined_at t i v ≡ t
    round-closed i v (ends_of k m q b low high lq) = node-closed rows x resets k (forms k) t (node-still k b) m q low high lq

-- ── The entries stay within 16 bits ──

union-lt : (n : ℕ) (f : ℕ → ℕ) → ((i : ℕ) → f i < 65536) → union n f < 65536
unfolding union
union-lt zero f h = lit< tt
union-lt (suc n) f h = or_lt 16 (union n f) (f n) (union-lt n f h) (h n)

pub over-lt : (f : ℕ → ℕ) (v : ℕ) → ((q : ℕ) → f q < 65536) → over f v < 65536
unfolding over
over-lt f v h = union-lt states (λ q. cond (has v q) (f q) 0) (λ q. go q (has v q))
  where
    go : (q : ℕ) (b : Bool) → cond b (f q) 0 < 65536
    go q true = h q
    go q false = lit< tt

pub cond-lt : (b : Bool) (v : ℕ) → v < 65536 → cond b 0 v < 65536
cond-lt true v h = lit< tt
cond-lt false v h = h

if-lt : (b : Bool) (v w : ℕ) → v < 65536 → w < 65536 → cond b v w < 65536
if-lt true v w h g = h
if-lt false v w h g = g

kept-lt : (m v : ℕ) → kept m v < 65536
kept-lt zero v = omega arith
kept-lt (suc m) v = omega arith

kept-in-lt : (e v : ℕ) → kept_in e v < 65536
unfolding kept_in
kept-in-lt e v = cond-lt (is_late_lem e) _ (kept-lt (meaning_in e) v)

pub joined-wide : (t : List ℕ) (i v : ℕ) → v < 65536 → Wide t → Wide (joined_at t i v)
unfolding joined_at
joined-wide t i v small wide = set-wide t i (bit_or (get_or t i 0) v) (or_lt 16 (get_or t i 0) v (wide i) small) wide

-- so are those of the table that is lent where p is open
abbrev pub WideLent : Resets → Type 0
WideLent never = Unit {0}
WideLent (opening_of p opened) = Wide opened

inside-lt : (resets : Resets) → WideLent resets → (t : List ℕ) (s b m q : ℕ) → Wide t → inside_ends_lem resets t s b m q < 65536
inside-lt never wide t s b m q w = w _
inside-lt (opening_of p opened) wide t s b m q w = go (eqb s p)
  where
    go : (d : Bool) → cond d (get_or opened (base b m + 0) 0) (get_or t (base b m + q) 0) < 65536
    go true = wide _
    go false = w _

turn-lt : (t : List ℕ) (a b f e q : ℕ) → Wide t → in_turn t a b f e q < 65536
turn-lt t a b f e q w = or_lt 16 _ _ (over-lt _ _ (λ j. w _)) (over-lt _ _ (λ j. w _))

sequence-lt : (t : List ℕ) (a b e q : ℕ) → Wide t → sequence_ends_lem t a b e q < 65536
unfolding sequence_ends_lem
sequence-lt t a b e q w =
    if-lt (is_late_lem e) _ _ (or_lt 16 _ _ (turn-lt t a b (in_group_lem waiting_group e) e q w) (turn-lt t a b e (in_group_lem 0 e) q w))
    (turn-lt t a b e e q w)

module _ (rows : Rows) (x : Resources) (resets : Resets) (lent : WideLent resets) where
  fresh-lt : (t : List ℕ) (k n b e q : ℕ) → Wide t → fresh_ends_lem rows x t k n b e q < 65536
  unfolding fresh_ends_lem
  fresh-lt t k n b e q w =
      or_lt 16 _ _ (or_lt 16 _ _ (over-lt _ _ (λ j. w _)) (cond-lt (made (meaning_in e)) _ (over-lt _ _ (λ j. w _))))
      (if-lt (is_late_lem e) _ _ (over-lt _ _ (λ j. w _)) (lit< tt))

  ends-lt : (t : List ℕ) (k m q : ℕ) (f : Option Form) → Wide t → ends_of_lem rows x resets t k m q f < 65536
  unfolding ends_by_lem
  ends-lt t k m q none w = lit< tt
  ends-lt t k m q (some end) w = kept-in-lt m (2 ^ q)
  ends-lt t k m q (some (static_event a s)) w = kept-in-lt m _
  ends-lt t k m q (some (named_event a n)) w = kept-in-lt m _
  ends-lt t k m q (some (sequence a b)) w = sequence-lt t a b m q w
  ends-lt t k m q (some (choice a b)) w = or_lt 16 _ _ (w _) (w _)
  ends-lt t k m q (some (loop a)) w = w _
  ends-lt t k m q (some (back a)) w = w _
  ends-lt t k m q (some (fresh n b)) w = fresh-lt t k n b m q w
  ends-lt t k m q (some (sandbox s b)) w = inside-lt resets lent t s b m q w

  entry-wide : (k : ℕ) (f : Option Form) (m : ℕ) (t : List ℕ) → Wide t → Wide (settle_entry rows x resets k f m t)
  unfolding joined_each
  entry-wide k f m t w =
      repeat-keeps Wide (λ q u. joined_at u (base k m + q) (ends_of_lem rows x resets t k m q f)) states
      (λ q u l v. joined-wide u (base k m + q) (ends_of_lem rows x resets t k m q f) (ends-lt t k m q f w) v) t w

  pub node_wide : (k : ℕ) (f : Option Form) (t : List ℕ) → Wide t → Wide (settle_node_lem rows x resets k f t)
  unfolding settle_node_lem
  node_wide k f t w =
      repeat-keeps Wide (λ i. settle_entry rows x resets k f (least x + i)) (entries_of_lem x - least x) (λ i t h w. entry-wide k f (least x + i) t w) t w
