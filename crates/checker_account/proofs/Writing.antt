-- Whatever the account says can be written down, where the names in scope mean something.
use Prim.Native.Nat.{ℕ, ◌+◌}
use mathlib.Core.Path.{◌≡◌, ◌∙◌}
use mathlib.Core.Bool.{Bool}
use mathlib.Core.Option.{some}
use mathlib.Core.List.{List, ◌∷◌}
use mathlib.Core.Logic.{◌⊎◌, inl, inr}
use native.Mathlib.Omega.{arith}
use native.Mathlib.Decide.{ℕ_discrete}
use lib.ListN.{length}
use Rattle.usage.specs.declared.Edge.{Edge}
use Rattle.usage.specs.declared.Node.{Node}
use Rattle.usage.specs.Limits.{create}
use Rattle.usage.specs.Past.{event, opening, Past}
use Rattle.usage.specs.Outline.{Names, give}
use Rattle.usage.proofs.TraceLaws.{give-same, give-other}
use Rattle.checker_account.specs.Account.{Sight, Aim, Goes}
use Rattle.checker_account.specs.Written.{next, Written}
use Rattle.checker_account.proofs.Scoped.{Scoped}

module _ (local : Bool) (es : List Edge) (ns : List Node) (p : ℕ) (S : Sight) where
  -- as many steps as are told
  pub written-length : {n : ℕ} {o : Bool} {k : ℕ} {names : Names} {w : S.Meaning} {c : S.Left} {q : ℕ} {past : Past} {t : Aim
      S.Left} {after : Past}
      → Written local es ns p S n o k names w c q past t after → length after ≡ length past + n
  written-length (Written.ends i) = omega arith
  written-length (Written.fires_static i v) = omega arith
  written-length (Written.fires_name i e v) = omega arith
  written-length (Written.sequences i u v) = omega (arith, written-length u, written-length v)
  written-length (Written.chooses_left i u) = written-length u
  written-length (Written.chooses_right i u) = written-length u
  written-length (Written.enters i u) = written-length u
  written-length (Written.repeats i u) = written-length u
  written-length (Written.makes i y v u) = omega (arith, written-length u)
  written-length (Written.sandboxes i u) = omega (arith, written-length u)
  written-length (Written.breaks_static i v f z) = omega arith
  written-length (Written.breaks_name i e v f z) = omega arith
  written-length (Written.breaks_fresh i y v f z) = omega arith
  written-length (Written.breaks_opening i f z) = omega arith
  written-length (Written.breaks_first i u) = written-length u
  written-length (Written.breaks_inside i u) = omega (arith, written-length u)

  -- what is written is told by the account
  pub written-goes : {n : ℕ} {o : Bool} {k : ℕ} {names : Names} {w : S.Meaning} {c : S.Left} {q : ℕ} {past : Past} {t : Aim
      S.Left} {after : Past}
      → Written local es ns p S n o k names w c q past t after → Goes local es ns p S n o k w c q t
  written-goes (Written.ends i) = Goes.ends i
  written-goes (Written.fires_static i v) = Goes.fires_static i v
  written-goes (Written.fires_name i e v) = Goes.fires_name i v
  written-goes (Written.sequences i u v) = Goes.sequences i (written-goes u) (written-goes v)
  written-goes (Written.chooses_left i u) = Goes.chooses_left i (written-goes u)
  written-goes (Written.chooses_right i u) = Goes.chooses_right i (written-goes u)
  written-goes (Written.enters i u) = Goes.enters i (written-goes u)
  written-goes (Written.repeats i u) = Goes.repeats i (written-goes u)
  written-goes (Written.makes i y v u) = Goes.makes i y v (written-goes u)
  written-goes (Written.sandboxes i u) = Goes.sandboxes i (written-goes u)
  written-goes (Written.breaks_static i v f z) = Goes.breaks_static i v f z
  written-goes (Written.breaks_name i e v f z) = Goes.breaks_name i v f z
  written-goes (Written.breaks_fresh i y v f z) = Goes.breaks_fresh i y v f z
  written-goes (Written.breaks_opening i f z) = Goes.breaks_opening i f z
  written-goes (Written.breaks_first i u) = Goes.breaks_first i (written-goes u)
  written-goes (Written.breaks_inside i u) = Goes.breaks_inside i (written-goes u)

  module _ (scope : ℕ → ℕ → Type 0) (outline : Scoped ns scope) where
    -- the names in scope at node k mean something
    abbrev pub Given : ℕ → Names → Type 0
    Given k names = (m : ℕ) → scope k m → (r : ℕ) × (names m ≡ some r)

    pub given-child : {names : Names} (k a : ℕ) → ((m : ℕ) → scope a m → scope k m) → Given k names → Given a names
    given-child k a sub h m s = h m (sub m s)

    pub given-fresh : {names : Names} (k n r b : ℕ) → ((m : ℕ) → scope b m → (m ≡ n) ⊎ scope k m) → Given k names → Given b (give names n r)
    given-fresh {names} k n r b sub h m s = go (ℕ_discrete m n) (sub m s)
      where
        go : Dec (m ≡ n) → (m ≡ n) ⊎ scope k m → (t : ℕ) × (give names n r m ≡ some t)
        go (yes e) u = (r, give-same names n r m e)
        go (no e) (inl f) = absurd (e f)
        go (no e) (inr f) = let (t, g) = h m f in (t, give-other names n r m e ∙ g)

    pub goes-written : {n : ℕ} {o : Bool} {k : ℕ} {w : S.Meaning} {c : S.Left} {q : ℕ} {t : Aim S.Left}
        → Goes local es ns p S n o k w c q t
        → (names : Names) → Given k names → (past : Past) → (after : Past) × Written local es ns p S n o k names w c q past t after
    goes-written (Goes.ends i) names g past = (past, Written.ends i)
    goes-written (Goes.fires_static {a = a} {s = s} i v) names g past = (_, Written.fires_static i v)
    goes-written (Goes.fires_name {m = m} i v) names g past = let (r, e) = g m (outline.used i) in (_, Written.fires_name i e v)
    goes-written (Goes.sequences {k = k} {a = a} {b = b} i d f) names g past =
        let (mid, u) = goes-written d names (given-child k a (outline.first i) g) past in
        let (after, v) = goes-written f names (given-child k b (outline.second i) g) mid in
        (after, Written.sequences i u v)
    goes-written (Goes.chooses_left {k = k} {a = a} i d) names g past =
        let (after, u) = goes-written d names (given-child k a (outline.left i) g) past in (after, Written.chooses_left i u)
    goes-written (Goes.chooses_right {k = k} {b = b} i d) names g past =
        let (after, u) = goes-written d names (given-child k b (outline.right i) g) past in (after, Written.chooses_right i u)
    goes-written (Goes.enters {k = k} {a = a} i d) names g past =
        let (after, u) = goes-written d names (given-child k a (outline.body i) g) past in (after, Written.enters i u)
    goes-written (Goes.repeats {k = k} {a = a} i d) names g past =
        let (after, u) = goes-written d names (given-child k a (outline.again i) g) past in (after, Written.repeats i u)
    goes-written (Goes.makes {k = k} {m = m} {b = b} i y v d) names g past =
        let (after, u) =
        goes-written d (give names m (next past)) (given-fresh k m (next past) b (outline.given i) g) (event create (next past) ∷ past) in
        (after, Written.makes i y v u)
    goes-written (Goes.sandboxes {k = k} {s = s} {b = b} i d) names g past =
        let (after, u) = goes-written d names (given-child k b (outline.inside i) g) (opening s ∷ past) in (_, Written.sandboxes i u)
    goes-written (Goes.breaks_static i v f z) names g past = (_, Written.breaks_static i v f z)
    goes-written (Goes.breaks_name {m = m} i v f z) names g past = let (r, e) = g m (outline.used i) in (_, Written.breaks_name i e v f z)
    goes-written (Goes.breaks_fresh i y v f z) names g past = (_, Written.breaks_fresh i y v f z)
    goes-written (Goes.breaks_opening i f z) names g past = (_, Written.breaks_opening i f z)
    goes-written (Goes.breaks_first {k = k} {a = a} i d) names g past =
        let (after, u) = goes-written d names (given-child k a (outline.first i) g) past in (after, Written.breaks_first i u)
    goes-written (Goes.breaks_inside {k = k} {s = s} {b = b} i d) names g past =
        let (after, u) = goes-written d names (given-child k b (outline.inside i) g) (opening s ∷ past) in
        (after, Written.breaks_inside i u)
