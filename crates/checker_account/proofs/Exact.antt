-- The finite account is exact: it tells the policies that some trace leaves open and not respected, by which last steps, and after how
-- many steps at the least.
use Prim.Native.Nat.{ℕ, ◌+◌, ◌<◌, ◌≤◌}
use mathlib.Core.Path.{◌≡◌, refl, sym, ◌∙◌, ap, subst}
use mathlib.Core.Bool.{Bool}
use mathlib.Core.Option.{none, some}
use mathlib.Core.List.{List, [], ◌∷◌}
use mathlib.Core.Logic.{◌↔◌}
use native.Mathlib.Omega.{arith}
use native.Mathlib.Decide.{ℕ_discrete}
use lib.ListN.{length}
use Rattle.usage.specs.declared.Edge.{Edge}
use Rattle.usage.specs.declared.Node.{Node}
use Rattle.usage.specs.Limits.{most_shown}
use Rattle.usage.specs.Policy.{EdgesOk}
use Rattle.usage.specs.Past.{Step, event, opening, closing, retiring, Past, count, Violates, Numbered}
use Rattle.usage.specs.Outline.{no_names, IsTrace}
use Rattle.usage.specs.Check.{Leaves, Shortest, Shown, longer}
use Rattle.usage.proofs.PastLaws.{violates-opening, violates-closing, violates-retiring}
use Rattle.usage.proofs.TraceLaws.{trace-tail}
use Rattle.checker_account.specs.Account.{Last, by_action, by_opening, Counts, Hits, Made, an_event, its_opening, LeavesBy, one}
use Rattle.checker_account.specs.Views.{Chosen, views}
use Rattle.checker_account.proofs.Scoped.{Scoped}
use Rattle.checker_account.proofs.Ahead.{hits-exact}
use Rattle.checker_account.proofs.Writing.{written-length, goes-written}
use Rattle.checker_account.proofs.ViolationLaws.{sound}
use Rattle.checker_account.proofs.WrittenTrace.{written-struck}

-- ── The violation, at the step that brings it about ──

module _ (local : Bool) (es : List Edge) (ns : List Node) (p : ℕ) where
  -- by a beginning of a trace, of this many steps
  abbrev pub Brought : ℕ → Type 0
  Brought most = (n : ℕ) × (n ≤ most) × (last : Last) × LeavesBy local es ns p n last

  brought-later : (m n : ℕ) → m ≤ n → Brought m → Brought n
  brought-later m n l (i, k, last, b) = (i, omega arith, last, b)

  pub brought-about : (past : Past) → IsTrace ns past → Violates local es p past → Brought (length past)
  unfolding count
  brought-about [] t (o, b) = absurd (omega arith)
  brought-about (event a r ∷ past) t v = (
    length (event a r
        ∷ past),
    omega arith,
    by_action a,
    record { step = event a r; past = past; made = an_event; trace = t; violates = v; steps = refl },
  )
  brought-about (opening s ∷ past) t v = go (ℕ_discrete s p) (brought-about past (trace-tail t))
    where
      go : Dec (s ≡ p) → (Violates local es p past → Brought (length past)) → Brought (length (opening s ∷ past))
      go (yes e) ih = (
        length (opening s ∷ past),
        omega arith,
        by_opening,
        record {
          step = opening s;
          past = past;
          made = subst (λ (u : ℕ). Made p by_opening (opening u)) (sym e) its_opening;
          trace = t;
          violates = v;
          steps = refl;
        },
      )
      go (no d) ih = brought-later (length past) (length (opening s ∷ past)) (omega arith) (ih (violates-opening local es p s past d v))
  brought-about (closing s ∷ past) t v =
      brought-later (length past) (length (closing s ∷ past)) (omega arith)
      (brought-about past (trace-tail t) (violates-closing local es p s past v))
  brought-about (retiring r ∷ past) t v =
      brought-later (length past) (length (retiring r ∷ past)) (omega arith)
      (brought-about past (trace-tail t) (violates-retiring local es p r past v))

-- ── The theorems ──

module _ (local : Bool) (es : List Edge) (ns : List Node) (scope : ℕ → ℕ → Type 0) (p : ℕ) (edges : EdgesOk es)
    (outline : Scoped ns scope) where
  only_one : {last by : Last} → Counts (some last) by → by ≡ last
  only_one one = refl

  -- what the account tells can be written down
  complete : {us : List ℕ} {n : ℕ} {last : Last} → Chosen es p us → Hits local es ns p (views us) n last
      → (l : LeavesBy local es ns p n last) × Numbered (l.step ∷ l.past)
  complete {us} {n} {last} chosen h =
      let (after, u) = goes-written local es ns p (views us) scope outline
      ((hits-exact local es ns p (views us) n (some last)).0 (last, one, h)) no_names (λ m s. absurd (outline.root s)) [] in
      let d = written-struck local es ns p us scope edges outline chosen u in
      let e : length (d.step ∷ d.past) ≡ n = ap length d.same ∙ written-length local es ns p (views us) u ∙ zero-steps in
      let m : Made p last d.step = subst (λ (l : Last). Made p l d.step) (only_one d.counts) d.made in
      (record { step = d.step; past = d.past; made = m; trace = d.trace; violates = d.violates; steps = e }, d.numbered)
    where
      zero-steps : length {A = Step} [] + n ≡ n
      zero-steps = omega arith

  pub exact-by : (n : ℕ) (last : Last) → LeavesBy local es ns p n last
      ↔ ((us : List ℕ) × Chosen es p us × Hits local es ns p (views us) n last)
  exact-by n last = (
    λ l. sound local es ns scope p edges outline l,
    λ h. (complete h.1 h.2).0,
  )

  -- From what the account tells one gets a trace of just so many steps, its fresh resources numbered 16, 17 and on.
  pub shortest-sound : {us : List ℕ} {n : ℕ} {last : Last} → Chosen es p us → Hits local es ns p (views us) n last
      → (past : Past) × IsTrace ns past × Numbered past × Violates local es p past × (length past ≡ n)
  shortest-sound small h = let (l, num) = complete small h in (l.step ∷ l.past, l.trace, num, l.violates, l.steps)

  -- Of any trace that leaves p open and not respected the account tells, with no more steps.
  pub shortest-complete : (past : Past) → IsTrace ns past → Violates local es p past
      → (m : ℕ) × (m ≤ length past) × (us : List ℕ) × Chosen es p us × (last : Last) × Hits local es ns p (views us) m last
  shortest-complete past t v =
      let (m, l, last, b) = brought-about local es ns p past t v in
      let (us, small, h) = sound local es ns scope p edges outline b in
      (m, l, us, small, last, h)

  -- Today's theorem: the number of steps is forgotten.
  pub exact : Leaves local es ns p ↔ ((us : List ℕ) × Chosen es p us × (n : ℕ) × (last : Last) × Hits local es ns p (views us) n last)
  exact = (
    λ l. let (m, k, us, small, last, h) = shortest-complete l.0 l.1 l.2 in (us, small, m, last, h),
    λ h. let (past, t, num, v, e) = shortest-sound h.1 h.4 in (past, t, v),
  )

  -- The least number of steps that the account tells is the length of a shortest trace, and one of that length, numbered so, exists.
  pub shortest : {us : List ℕ} {n : ℕ} {last : Last} → Chosen es p us → Hits local es ns p (views us) n last
      → ((vs : List ℕ) (m : ℕ) (by : Last) → Chosen es p vs → Hits local es ns p (views vs) m by → n ≤ m) → (past : Past)
      × Shortest local es ns p past × (length past ≡ n)
  shortest {us} {n} small h low =
      let (past, t, num, v, e) = shortest-sound small h in
      (past, record { trace = t; numbered = num; violates = v; least = λ another t' v'. at_most past e another t' v' }, e)
    where
      at_most : (past : Past) → length past ≡ n → (another : Past) → IsTrace ns another → Violates local es p another
          → length past ≤ length another
      at_most past e another t v = let (m, l, vs, fit, by, k) = shortest-complete another t v in omega (arith, low vs m by fit k)

  -- Where the account tells of none within 200 steps, every trace that leaves p open and not respected is longer.
  pub all-longer : ((vs : List ℕ) (m : ℕ) (by : Last) → Chosen es p vs → Hits local es ns p (views vs) m by → most_shown < m)
      → Shown local es ns p none
  all-longer far = longer (λ past t v. let (m, l, vs, fit, by, k) = shortest-complete past t v in omega (arith, far vs m by fit k))
