-- The tables of ends, once filled from the empty one, hold exactly the ends.
use Prim.Native.Nat.{ℕ, ◌+◌, ◌<◌, ◌≤◌}
use mathlib.Core.Path.{◌≡◌, refl, sym, ap, ◌∙◌, subst}
use mathlib.Core.Bool.{Bool, true, false}
use mathlib.Core.Option.{Option, none, some}
use mathlib.Core.List.{List}
use mathlib.Core.Logic.{◌⊎◌, inl, inr}
use native.Mathlib.Omega.{arith}
use lib.ListN.{length, replicate, length-replicate}
use Rattle.usage.specs.Limits.{states, most_nodes}
use Rattle.usage.specs.declared.Edge.{Edge}
use Rattle.usage.specs.declared.Node.{Node}
use Rattle.usage.specs.Policy.{EdgesOk}
use Rattle.usage.specs.Outline.{Form}
use Rattle.automaton.specs.Mask.{has}
use Rattle.checker_account.specs.Pairs.{numbers}
use Rattle.checker_account.specs.declared.Resources.{Resources}
use Rattle.checker_account.specs.Tables.{watched_by, entries_of_lem, at, base, places_of, joined_at, Rows, Resets, never, opening_of}
use Rattle.checker_account.specs.Holds.{InUse, RowsOk, NamesOk, TargetsOk, EndsAt, HasEnd, SoundEnds, ClosedEnds, HoldsEnds}
use Rattle.checker_account.specs.Holds.{ResetsOk, where_open}
use Rattle.checker_account.specs.Holds.{where_not}
use Rattle.checker_account.specs.Filling.{Asked, Forms, FormsOf, ends_of_lem, EndsRule, ends_of, Filled, ShutFilled, EndsFilled}
use Rattle.checker_account.proofs.Whole.{ends_open}
use Rattle.checker_account.proofs.MaskLaws.{has_none}
use Rattle.checker_account.proofs.JoinLaws.{joined-found, joined-still, zeros}
use Rattle.checker_account.proofs.GrowsLaws.{derived-grows, derived-keeps}
use Rattle.checker_account.proofs.EndsTable.{rule-sound, holds-ends}

-- a place is that of one node, one meaning and one state
module _ (k m q k' m' q' : ℕ) (high : k < most_nodes) (low : q < states) (high' : k' < most_nodes) (low' : q' < states)
    (e : base k m + q ≡ base k' m' + q') where
  pub same-node : k ≡ k'
  same-node = omega arith

  pub same-meaning : m ≡ m'
  same-meaning = omega arith

  pub same-state : q ≡ q'
  same-state = omega arith

module _ (local : Bool) (es : List Edge) (ns : List Node) (p : ℕ) (x : Resources) {pair : Bool} (asked : Asked pair x) (o : Bool) (rows : Rows)
    (ok : RowsOk es ns p x rows) (names : NamesOk ns) (targets : TargetsOk ns) (resets : Resets) (right : ResetsOk es ns p x local o resets)
    (n : ℕ) (forms : Forms) (reads : FormsOf ns n forms) (few : n ≤ most_nodes) where
  -- ── What is derived are ends ──

  -- what the rule gives node k, begun in (m, q)
  rule-right : (k m q : ℕ) (t : List ℕ) (f : Option Form) → forms k ≡ f → k < n → InUse x m → q < states → SoundEnds local es ns p x o t
      → (c : Bool) (q' : ℕ) → q' < states → has (ends_of_lem rows x resets t k m q f) (at c q') ≡ true → EndsAt local es ns p x o k m q c q'
  rule-right k m q t none e l st lq sound c q' l' h = has_none (at c q') h
  rule-right k m q t (some f) e l st lq sound c q' l' h =
      rule-sound local es ns p x asked o rows ok names targets resets right t sound k m q f (reads.is k f l e) st lq c q' l' h

  joined-sound : (t by : List ℕ) (i v : ℕ) → SoundEnds local es ns p x o t → SoundEnds local es ns p x o by
      → EndsRule rows x resets n forms by i v
      → SoundEnds local es ns p x o (joined_at t i v)
  joined-sound t by i v sound sound-by (ends_of k m q l a b lq) k' m' q₁ c q' lk st lq₁ lq' h =
      go (joined-found t (base k m + q) (ends_of_lem rows x resets by k m q (forms k)) (base k' m' + q₁) (at c q') h)
    where
      go : HasEnd t k' m' q₁ c q' ⊎ ((base k' m' + q₁ ≡ base k m + q) × (has (ends_of_lem rows x resets by k m q (forms k)) (at c q') ≡ true))
          → EndsAt local es ns p x o k' m' q₁ c q'
      go (inl g) = sound k' m' q₁ c q' lk st lq₁ lq' g
      go (inr (e, g)) =
          let here : k < most_nodes = omega arith in
          let r = rule-right k m q by (forms k) refl l (record { low = a; high = b }) lq sound-by c q' lq' g in
          let r₁ = subst (λ (j : ℕ). EndsAt local es ns p x o j m q c q') (same-node k m q k' m' q₁ here lq lk lq₁ (sym e)) r in
          let r₂ = subst (λ (j : ℕ). EndsAt local es ns p x o k' j q c q') (same-meaning k m q k' m' q₁ here lq lk lq₁ (sym e)) r₁ in
          subst (λ (j : ℕ). EndsAt local es ns p x o k' m' j c q') (same-state k m q k' m' q₁ here lq lk lq₁ (sym e)) r₂

  empty-sound : SoundEnds local es ns p x o (replicate (places_of x) 0)
  empty-sound k m q c q' lk st lq lq' h = has_none (at c q') (ap (λ (v : ℕ). has v (at c q')) (sym (zeros (places_of x) (base k m + q))) ∙ h)

  -- ── No rule adds anything ──

  closed-ends : (t : List ℕ) → length t ≡ places_of x
      → ((i v : ℕ) → EndsRule rows x resets n forms t i v → joined_at t i v ≡ t) → ClosedEnds ns x rows resets t
  closed-ends t len closed k m q f i st lq c q' lq' h =
      let (l, e) = reads.has k f i in
      let high : m < entries_of_lem x = st.high in
      let g : has (ends_of_lem rows x resets t k m q (forms k)) (at c q') ≡ true = ap
      (λ (f : Option Form). has (ends_of_lem rows x resets t k m q f) (at c q')) e
      ∙ h in
      joined-still t (base k m + q) (ends_of_lem rows x resets t k m q (forms k)) (omega arith)
      (closed (base k m + q) (ends_of_lem rows x resets t k m q (forms k)) (ends_of k m q l st.low st.high lq)) (at c q') g

  filled-one : EdgesOk es → (t : List ℕ) → Filled (EndsRule rows x resets n forms) (replicate (places_of x) 0) t
      → HoldsEnds local es ns p x o t
  filled-one edges t h =
      let len : length t ≡ places_of x = (derived-grows (EndsRule rows x resets n forms) (replicate (places_of x) 0) h.derived).len
      ∙ length-replicate (places_of x) 0 in
      holds-ends local es ns p x asked o rows ok names targets resets right edges t (closed-ends t len h.closed)
      (derived-keeps (EndsRule rows x resets n forms) (replicate (places_of x) 0) (SoundEnds local es ns p x o) empty-sound joined-sound
      h.derived)

-- ── Both tables ──

-- where the whole past counts, the ends where p is open are those where it is not
whole-ends : (es : List Edge) (ns : List Node) (p : ℕ) (x : Resources) (t : List ℕ) → HoldsEnds false es ns p x true t → HoldsEnds false es ns p x false t
whole-ends es ns p x t h = record {
  sound = λ k m q c q' lk s l l' e. let (n, f) = h.sound k m q c q' lk s l l' e in (n, ends_open es ns p (numbers (watched_by x)) f false);
  full = λ k m q c q' s l e. h.full k m q c q' s l (e.0, ends_open es ns p (numbers (watched_by x)) e.1 true);
}

module _ (es : List Edge) (ns : List Node) (p : ℕ) (x : Resources) {pair : Bool} (asked : Asked pair x) (rows : Rows) (ok : RowsOk es ns p x rows) (names : NamesOk ns)
    (targets : TargetsOk ns) (n : ℕ) (forms : Forms) (reads : FormsOf ns n forms) (edges : EdgesOk es) (few : n ≤ most_nodes) where
  opened-ends : (local : Bool) (t : List ℕ) → Filled (EndsRule rows x never n forms) (replicate (places_of x) 0) t
      → HoldsEnds local es ns p x true t
  opened-ends local t h = filled-one local es ns p x asked true rows ok names targets never where_open n forms reads few edges t h

  shut-ends : (local : Bool) (opened t : List ℕ) → HoldsEnds local es ns p x true opened → ShutFilled local rows p x n forms opened t
      → HoldsEnds local es ns p x false t
  shut-ends false opened t h e = subst (HoldsEnds false es ns p x false) (sym e) (whole-ends es ns p x opened h)
  shut-ends true opened t h f =
      filled-one true es ns p x asked false rows ok names targets (opening_of p opened) (where_not h) n forms reads few edges t f

  pub filled-ends : (local : Bool) (t : Bool → List ℕ) → EndsFilled local rows p x n forms t → (o : Bool)
      → HoldsEnds local es ns p x o (t o)
  filled-ends local t h true = opened-ends local (t true) h.opened_filled
  filled-ends local t h false = shut-ends local (t true) (t false) (opened-ends local (t true) h.opened_filled) h.shut_filled
