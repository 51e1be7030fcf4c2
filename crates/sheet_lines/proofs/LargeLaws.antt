-- Values that no field may have: a line with one of them is out of range, whichever sheet it is of.
use Prim.Native.Nat.{ℕ, zero, suc, ◌<◌, ◌≤◌}
use mathlib.Core.Path.{◌≡◌, refl}
use mathlib.Core.Bool.{Bool, true, false}
use mathlib.Core.List.{List, [], ◌∷◌, ◌++◌}
use native.Mathlib.Omega.{arith}
use lib.ListN.{length, get_or}
use Rattle.usage.specs.Limits.{resources}
use Rattle.sheet_fields.specs.declared.Kind.{Kind}
use Rattle.sheet_fields.specs.declared.Kind.TheVariants.{Policies, Trace, Outline}
use Rattle.sheet_fields.proofs.BelowLaws.{Below, below_at, edge-below, step-below, node-below}
use Rattle.sheet_lines.specs.Sheet.{Sheet}
use Rattle.sheet_lines.specs.Sheets.{sheet_of}

-- one of the values is not below the resources
pub record Large (vs : List ℕ) : Type 0 where
  pub place : ℕ
  pub large : resources ≤ get_or vs place 0

large-after : (x : ℕ) {vs : List ℕ} → Large vs → Large (x ∷ vs)
large-after x l = record { place = suc l.place; large = l.large }

-- the last value is large
pub large-new : (vs : List ℕ) (v : ℕ) → resources ≤ v → Large (vs ++ (v ∷ []))
large-new [] v h = record { place = 0; large = h }
large-new (x ∷ vs) v h = large-after x (large-new vs v h)

-- the last value grows
pub large-grown : (vs : List ℕ) (v w : ℕ) → v ≤ w → Large (vs ++ (v ∷ [])) → Large (vs ++ (w ∷ []))
large-grown vs v w h l = record { place = l.place; large = go vs l.place l.large }
  where
    go : (vs : List ℕ) (i : ℕ) → resources ≤ get_or (vs ++ (v ∷ [])) i 0 → resources ≤ get_or (vs ++ (w ∷ [])) i 0
    go [] zero g = let k : resources ≤ v = g in let r : resources ≤ w = omega arith in r
    go [] (suc i) g = g
    go (x ∷ vs) zero g = g
    go (x ∷ vs) (suc i) g = go vs i g

-- another value follows
pub large-before : (vs : List ℕ) (v : ℕ) → Large vs → Large (vs ++ (v ∷ []))
large-before vs v l = record { place = l.place; large = go vs l.place l.large }
  where
    go : (vs : List ℕ) (i : ℕ) → resources ≤ get_or vs i 0 → resources ≤ get_or (vs ++ (v ∷ [])) i 0
    go [] i h = absurd (omega arith)
    go (x ∷ vs) zero h = h
    go (x ∷ vs) (suc i) h = go vs i h

-- no line of the sheet with a large value is in range
abbrev pub Bounded : Sheet → Type 0
Bounded s = (vs : List ℕ) → length vs ≡ s.fields → Large vs → s.in_range_lem vs ≡ false

-- where the values of a line in range are below something that is at most the resources
bounded-by : (s : Sheet) (m : ℕ) → 0 < m → m ≤ resources → ((vs : List ℕ) → length vs ≡ s.fields → s.in_range_lem vs ≡ true → Below m vs)
    → Bounded s
bounded-by s m z h f vs k l = go (s.in_range_lem vs) refl
  where
    go : (x : Bool) → s.in_range_lem vs ≡ x → x ≡ false
    go true e = let b = below_at (f vs k e) z l.place in let g = l.large in absurd (omega arith)
    go false e = refl

pub bounded : (k : Kind) → Bounded (sheet_of k)
bounded (Policies local) = bounded-by (sheet_of (Policies local)) 256 (omega arith) (omega arith) edge-below
bounded Trace = bounded-by (sheet_of Trace) resources (omega arith) (omega arith) step-below
bounded Outline = bounded-by (sheet_of Outline) 256 (omega arith) (omega arith) node-below
