-- The theorems of exactness over any choice of sights that tell the stand-ins a policy asks for.
use Prim.Native.Nat.{ℕ, ◌<◌, ◌≤◌}
use mathlib.Core.Path.{◌≡◌, sym, subst}
use mathlib.Core.Bool.{Bool}
use mathlib.Core.Option.{none}
use mathlib.Core.List.{List}
use mathlib.Core.Logic.{◌↔◌}
use native.Mathlib.Omega.{arith}
use lib.ListN.{length}
use Rattle.usage.specs.declared.Edge.{Edge}
use Rattle.usage.specs.declared.Node.{Node}
use Rattle.usage.specs.Limits.{most_shown}
use Rattle.usage.specs.Policy.{EdgesOk}
use Rattle.usage.specs.Past.{Past, Violates}
use Rattle.usage.specs.Outline.{IsTrace}
use Rattle.usage.specs.Check.{Leaves, Shown, longer}
use Rattle.checker_account.specs.Account.{Sight, Last, Hits, LeavesBy}
use Rattle.checker_account.specs.Views.{Chosen, views}
use Rattle.checker_account.specs.Holds.{NamesOk}
use Rattle.checker_account.proofs.Scoped.{Scoped}
use Rattle.checker_account.proofs.BegunLaws.{Keeps}
use Rattle.checker_account.proofs.RendersLaws.{Renders, hits-rendered}
use Rattle.checker_account.proofs.Exact.{exact-by, shortest-sound, shortest-complete}

-- One sight for each choice of stand-ins that p asks for, and no other.
pub record Sights (es : List Edge) (p : ℕ) : Type 1 where
  pub Choice : Type 0
  pub sight : Choice → Sight
  pub stand-ins : Choice → List ℕ
  pub chosen : (i : Choice) → Chosen es p (stand-ins i)
  pub every : (us : List ℕ) → Chosen es p us → (i : Choice) × (stand-ins i ≡ us)
  pub keeps : (i : Choice) → Keeps (sight i)
  pub renders : (i : Choice) → Renders (sight i) (views (stand-ins i))

module _ (local : Bool) (es : List Edge) (ns : List Node) (scope : ℕ → ℕ → Type 0) (p : ℕ) (edges : EdgesOk es)
    (outline : Scoped ns scope) (all : Sights es p) where
  names-ok : NamesOk ns
  names-ok = record { static = outline.static-small; used = outline.name-small; given = outline.fresh-small }

  abbrev pub HitsAt : all.Choice → ℕ → Last → Type 0
  HitsAt i n last = Hits local es ns p (all.sight i) n last

  at-views : (i : all.Choice) (n : ℕ) (last : Last) → HitsAt i n last ↔ Hits local es ns p (views (all.stand-ins i)) n last
  at-views i n last =
      hits-rendered local es ns p (all.sight i) (views (all.stand-ins i)) (all.keeps i) (all.renders i) edges names-ok n last

  at-sight : {us : List ℕ} {n : ℕ} {last : Last} → Chosen es p us → Hits local es ns p (views us) n last
      → (i : all.Choice) × HitsAt i n last
  at-sight {us} {n} {last} c h =
      let (i, e) = all.every us c in
      (i, (at-views i n last).1 (subst (λ (t : List ℕ). Hits local es ns p (views t) n last) (sym e) h))

  pub exact-by-sights : (n : ℕ) (last : Last) → LeavesBy local es ns p n last ↔ ((i : all.Choice) × HitsAt i n last)
  exact-by-sights n last = (
    λ l. let (us, c, h) = (exact-by local es ns scope p edges outline n last).0 l in at-sight c h,
    λ (i, h). (exact-by local es ns scope p edges outline n last).1 (all.stand-ins i, all.chosen i, (at-views i n last).0 h),
  )

  -- Of any trace that leaves p open and not respected some sight tells, with no more steps.
  pub shortest-sights : (past : Past) → IsTrace ns past → Violates local es p past
      → (m : ℕ) × (m ≤ length past) × (i : all.Choice) × (last : Last) × HitsAt i m last
  shortest-sights past t v =
      let (m, l, us, c, last, h) = shortest-complete local es ns scope p edges outline past t v in
      let (i, g) = at-sight c h in
      (m, l, i, last, g)

  pub exact-sights : Leaves local es ns p ↔ ((i : all.Choice) × (n : ℕ) × (last : Last) × HitsAt i n last)
  exact-sights = (
    λ l. let (m, k, i, last, h) = shortest-sights l.0 l.1 l.2 in (i, m, last, h),
    λ (i, n, last, h).
        let (past, t, num, v, e) = shortest-sound local es ns scope p edges outline (all.chosen i) ((at-views i n last).0 h) in
        (past, t, v),
  )

  -- Where no sight tells of one within 200 steps, every trace that leaves p open and not respected is longer.
  pub all-longer-sights : ((i : all.Choice) (m : ℕ) (by : Last) → HitsAt i m by → most_shown < m) → Shown local es ns p none
  all-longer-sights far = longer (λ past t v. let (m, l, i, by, k) = shortest-sights past t v in omega (arith, far i m by k))
