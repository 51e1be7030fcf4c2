-- The search's answer is right: for one choice of watched resources, and then for all of them.
use Prim.Native.Nat.{ℕ, ◌+◌, ◌-◌, ◌<◌, ◌≤◌}
use mathlib.Core.Path.{◌≡◌, refl, sym, ap, ◌∙◌}
use mathlib.Core.Bool.{Bool, true, false}
use mathlib.Core.Option.{Option, none, some}
use mathlib.Core.List.{List, ◌∷◌}
use mathlib.Core.Logic.{◌⊎◌, inl, inr}
use native.Mathlib.Omega.{arith}
use lib.Dec.{lit<}
use lib.ListN.{get_or, replicate, length-replicate}
use lib.Seq.{get_or-set_same}
use lib.Bits.{bit_or}
use Rattle.usage.specs.Limits.{most_nodes}
use Rattle.usage.specs.declared.Edge.{Edge}
use Rattle.usage.specs.declared.Node.{Node}
use Rattle.usage.specs.Policy.{PairPolicy, EdgesOk}
use Rattle.usage.specs.Check.{Leaves}
use Rattle.usage.specs.Outline.{Form, end, static_event, named_event, sequence, choice, loop, back, fresh, sandbox}
use Rattle.usage.specs.Tests.{Decides}
use Rattle.usage.proofs.Logic.{false-true}
use Rattle.automaton.specs.Mask.{has, offends}
use Rattle.automaton.proofs.MaskLaws.{some_at, some-found}
use Rattle.checker_account.specs.Account.{Last, Hits}
use Rattle.checker_account.specs.Pairs.{numbers}
use Rattle.checker_account.specs.declared.Resources.{Resources}
use Rattle.checker_account.specs.Tables.{watched_by, half, least, codes_of, first_code_lem, places_of, Rows, place, leaves, last_of, joined_at}
use Rattle.checker_account.specs.Holds.{RowsOk, NamesOk, TargetsOk, HitsFrom, HasCome, HoldsComes, Struck}
use Rattle.checker_account.specs.Filling.{Forms, FormsOf, leaves_of, hit_node_lem, hit_any, begins, Wide, Asked, Searched, SearchedAll, found}
use Rattle.checker_account.specs.Filling.{none_found, Skips, EndsFilled, ComesRule, Filled}
use Rattle.checker_account.proofs.Scoped.{Scoped}
use Rattle.checker_account.proofs.Exact.{brought-about}
use Rattle.checker_account.proofs.Skipped.{Worth}
use Rattle.checker_account.proofs.AskedLaws.{skips-worth, leaves-shown, shown-leaves}
use Rattle.checker_account.proofs.JoinLaws.{zeros, zeros-wide}
use Rattle.checker_account.proofs.SettleLaws.{joined-wide}
use Rattle.checker_account.proofs.EntryBounds.{place-lt, first-code-lt}
use Rattle.checker_account.proofs.FillEnds.{filled-ends}
use Rattle.checker_account.proofs.FillComes.{filled-comes}
use Rattle.checker_account.proofs.HitsTable.{hits-exact}

-- ── Tables of 16 bits ──

pub begins-wide : (x : Resources) → Wide (begins x)
begins-wide x = joined-wide (replicate (places_of x) 0) (place 0 false (first_code_lem x)) 1 (lit< tt) (zeros-wide (places_of x))

-- ── The start is in the table ──

pub begins-has : (x : Resources) → HasCome (begins x) 0 false (first_code_lem x) 0
unfolding joined_at has
begins-has x =
    let i = place 0 false (first_code_lem x) in
    let l = place-lt x 0 false (first_code_lem x) (omega arith) (first-code-lt x) in
    let z = length-replicate {A = ℕ} (places_of x) 0 in
    ap (λ (v : ℕ). has v 0)
    (get_or-set_same (replicate (places_of x) 0) i (bit_or (get_or (replicate (places_of x) 0) i 0) 1) 0 (omega arith))
    ∙ ap (λ (v : ℕ). has (bit_or v 1) 0) (zeros (places_of x) i)

-- ── A hit, by the table ──

-- a form without a step leaves nothing
no-leaves : (local : Bool) (rows : Rows) (p : ℕ) (x : Resources) (u : List ℕ) (k m : ℕ) (f : Form)
    → offends (half false (leaves local rows p x u k m f)) ≡ true
    → (last : Last) × (last_of f ≡ some last)
unfolding leaves
no-leaves local rows p x u k m end h = false-true h
no-leaves local rows p x u k m (static_event a s) h = (_, refl)
no-leaves local rows p x u k m (named_event a n) h = (_, refl)
no-leaves local rows p x u k m (sequence a b) h = false-true h
no-leaves local rows p x u k m (choice a b) h = false-true h
no-leaves local rows p x u k m (loop a) h = false-true h
no-leaves local rows p x u k m (back a) h = false-true h
no-leaves local rows p x u k m (fresh n b) h = (_, refl)
no-leaves local rows p x u k m (sandbox s b) h = (_, refl)

module _ (local : Bool) (ns : List Node) (p : ℕ) (x : Resources) (rows : Rows) (u : List ℕ) (n : ℕ) (forms : Forms) (reads : FormsOf ns n forms) where
  found_at : (k i : ℕ) (f : Option Form) → forms k ≡ f → k < n → i < codes_of x - least x
      → offends (half false (leaves_of local rows p x u k (least x + i) f)) ≡ true → (last : Last) × Struck local ns p x rows u last
  found_at k i none e l h o = false-true o
  found_at k i (some f) e l h o =
      let (last, g) = no-leaves local rows p x u k (least x + i) f o in (
        last,
        record {
          node = k;
          code = least x + i;
          form = f;
          is = reads.is k f l e;
          start = record { low = omega arith; high = omega arith };
          step = g;
          offending = o;
        },
      )

  hit-found : hit_any local rows p x u n forms ≡ true → (last : Last) × Struck local ns p x rows u last
  unfolding hit_any hit_node_lem
  hit-found h =
      let (k, l, g) = some-found n (λ k. hit_node_lem local rows p x u k (forms k)) h in
      let (i, b, o) = some-found (codes_of x - least x) (λ i. offends (half false (leaves_of local rows p x u k (least x + i) (forms k)))) g in
      found_at k i (forms k) refl l b o

  hit-at : {last : Last} → Struck local ns p x rows u last → hit_any local rows p x u n forms ≡ true
  unfolding hit_any hit_node_lem
  hit-at h =
      let k = h.node in
      let m = h.code in
      let (l, e) = reads.has k h.form h.is in
      let low : least x ≤ m = h.start.low in
      let high : m < codes_of x = h.start.high in
      let em : least x + (m - least x) ≡ m = omega arith in
      let o : offends (half false (leaves_of local rows p x u k (least x + (m - least x)) (forms k))) ≡ true =
      ap (λ (f : Option Form). offends (half false (leaves_of local rows p x u k (least x + (m - least x)) f))) e
      ∙ ap (λ (j : ℕ). offends (half false (leaves local rows p x u k j h.form))) em
      ∙ h.offending in
      some_at n (λ k. hit_node_lem local rows p x u k (forms k)) k l
      (some_at (codes_of x - least x) (λ i. offends (half false (leaves_of local rows p x u k (least x + i) (forms k)))) (m - least x)
      (omega arith) o)

-- ── The answer for one choice of watched resources ──

-- the filled table holds exactly what is come to
pub comes-held : (local : Bool) (es : List Edge) (ns : List Node) (p : ℕ) (x : Resources) {pair : Bool} → Asked pair x → (rows : Rows) → EdgesOk es → RowsOk es ns p x rows
    → NamesOk ns → TargetsOk ns → (n : ℕ) (forms : Forms) → n ≤ most_nodes → FormsOf ns n forms → (ends : Bool → List ℕ)
    → EndsFilled local rows p x n forms ends → (u : List ℕ) → Filled (ComesRule local rows p x ends n forms) (begins x) u
    → HoldsComes local es ns p x u
comes-held local es ns p x asked rows edges ok names targets n forms few reads ends e u f =
    filled-comes local es ns p x asked rows ok names targets ends
    (filled-ends es ns p x asked rows ok names targets n forms reads edges few local ends e) n forms reads edges u
    (begins-has x) f

pub searched : (local : Bool) (es : List Edge) (ns : List Node) (p : ℕ) (x : Resources) {pair : Bool} → Asked pair x → (rows : Rows) → EdgesOk es → RowsOk es ns p x rows
    → NamesOk ns
    → TargetsOk ns
    → (n : ℕ) (forms : Forms) → n ≤ most_nodes → FormsOf ns n forms → (answer : Bool) → Searched local rows p x n forms answer
    → Decides answer ((last : Last) × HitsFrom local es ns p x last)
searched local es ns p x asked rows edges ok names targets n forms few reads answer h =
    let comes = comes-held local es ns p x asked rows edges ok names targets n forms few reads h.ends h.ends_filled h.comes
    h.comes_filled in (
      (λ a. let (last, s) = hit-found local ns p x rows h.comes n forms reads (sym h.told ∙ a) in
          (last, (hits-exact local es ns p x asked rows ok names targets edges h.comes comes last).1 s)),
      (λ b. h.told ∙ hit-at local ns p x rows h.comes n forms reads
          ((hits-exact local es ns p x asked rows ok names targets edges h.comes comes b.0).0 b.1)),
    )

-- ── The answer for a policy ──

-- some trace leaves the policy open and not respected exactly if the answer is yes
pub broken-exact : (local : Bool) (es : List Edge) (ns : List Node) (p : ℕ) (rows : Rows) {pair : Bool} → Decides pair (PairPolicy es p)
    → EdgesOk es → ((x : Resources) → Asked pair x → RowsOk es ns p x rows) → NamesOk ns → TargetsOk ns
    → (n : ℕ) (forms : Forms) → n ≤ most_nodes → FormsOf ns n forms → (scope : ℕ → ℕ → Type 0) → Scoped ns scope
    → (answer : Bool) → SearchedAll local rows p pair n forms answer → Decides answer (Leaves local es ns p)
broken-exact local es ns p rows {pair} kind edges ok names targets n forms few reads scope scoped answer s = go answer s
  where
    tells : (x : Resources) (a : Asked pair x) (answer : Bool) → Searched local rows p x n forms answer
        → Decides answer ((last : Last) × HitsFrom local es ns p x last)
    tells x a answer h = searched local es ns p x a rows edges (ok x a) names targets n forms few reads answer h

    go : (answer : Bool) → SearchedAll local rows p pair n forms answer → Decides answer (Leaves local es ns p)
    go answer (found {x = x} a h) =
        let (last, hit) = (tells x a true h).0 refl in
        let l = shown-leaves local es ns p edges names scope scoped kind hit.0 last a hit.1 in
        ((λ e. (l.step ∷ l.past, l.trace, l.violates)), (λ e. refl))
    go answer (none_found h) = ((λ e. false-true e), missed)
      where
        sees : {m : ℕ} {last : Last} {x : Resources} → Asked pair x → Worth ns (watched_by x)
            → Hits local es ns p (numbers (watched_by x)) m last
            → Skips n forms x ⊎ Searched local rows p x n forms false → false ≡ true
        sees a w t (inl u) = absurd (skips-worth ns n forms reads a u w)
        sees {m} {last} {x} a w t (inr s) = (tells x a false s).1 (last, (m, t))

        missed : Leaves local es ns p → false ≡ true
        missed (past, t, v) =
            let (m, l, last, b) = brought-about local es ns p past t v in
            let (x, a, w, k) = leaves-shown local es ns p edges names scope scoped kind m last b in
            sees a w k (h x a)
