-- A table that only ever held lengths, and to which no rule adds any more, holds the least ones.
use Prim.Native.Nat.{ℕ, ◌≤◌}
use mathlib.Core.Bool.{Bool}
use mathlib.Core.List.{List}
use native.Mathlib.Omega.{arith}
use Rattle.usage.specs.declared.Edge.{Edge}
use Rattle.usage.specs.declared.Node.{Node}
use Rattle.usage.specs.Policy.{EdgesOk}
use Rattle.checker_account.specs.Account.{Sight, Aim, Goes}
use Rattle.checker_account.specs.Least.{Entries, Starts, Followed, Begun, Aimed, at_end, Rule, Lengths, Least, Less, Closed}
use Rattle.checker_account.proofs.Scoped.{Scoped}
use Rattle.checker_account.proofs.BegunLaws.{moves-states, Keeps, begun-new, begun_opened, begun-ended}

module _ (local : Bool) (es : List Edge) (ns : List Node) (p : ℕ) (S : Sight) (keeps : Keeps S) (scope : ℕ → ℕ → Type 0)
    (edges : EdgesOk es)
    (outline : Scoped ns scope) (cap : ℕ) (E : Entries S.Meaning S.Left) where
  -- n or less stands there
  abbrev Has : ℕ → Bool → ℕ → S.Meaning → S.Left → ℕ → Aim S.Left → Type 0
  Has n o k w c q t = (m : ℕ) × (m ≤ n) × E m o k w c q t

  -- What a rule makes of entries that are lengths is a length: so a round keeps `Lengths`.
  pub rule-sound : {n : ℕ} {o : Bool} {k : ℕ} {w : S.Meaning} {c : S.Left} {q : ℕ} {t : Aim S.Left} → Lengths local es ns p S cap E
      → Begun S w c q → Aimed t
      → Rule local es ns p S E n o k w c q t
      → Goes local es ns p S n o k w c q t
  rule-sound s h a (Rule.ends i) = Goes.ends i
  rule-sound s h a (Rule.fires_static i v) = Goes.fires_static i v
  rule-sound s h a (Rule.fires_name i v) = Goes.fires_name i v
  rule-sound s h a (Rule.sequences i d f) =
      let u = s.sound h at_end d in Goes.sequences i u (s.sound (begun-ended local es ns p S edges keeps h u) a f)
  rule-sound s h a (Rule.chooses_left i d) = Goes.chooses_left i (s.sound h a d)
  rule-sound s h a (Rule.chooses_right i d) = Goes.chooses_right i (s.sound h a d)
  rule-sound s h a (Rule.enters i d) = Goes.enters i (s.sound h a d)
  rule-sound s h a (Rule.repeats i d) = Goes.repeats i (s.sound h a d)
  rule-sound s h a (Rule.makes {q₁ = q₁} i y v d) =
      Goes.makes i y v (s.sound (begun-new keeps h q₁ (outline.fresh-small i) y (moves-states edges v h.state)) a d)
  rule-sound s h a (Rule.sandboxes {s = s₁} {o = o} i d) = Goes.sandboxes i (s.sound (begun_opened h local p s₁ o) at_end d)
  rule-sound s h a (Rule.breaks_static i v f z) = Goes.breaks_static i v f z
  rule-sound s h a (Rule.breaks_name i v f z) = Goes.breaks_name i v f z
  rule-sound s h a (Rule.breaks_fresh i y v f z) = Goes.breaks_fresh i y v f z
  rule-sound s h a (Rule.breaks_opening i f z) = Goes.breaks_opening i f z
  rule-sound s h a (Rule.breaks_first i d) = Goes.breaks_first i (s.sound h a d)
  rule-sound s h a (Rule.breaks_inside {s = s₁} {o = o} i d) = Goes.breaks_inside i (s.sound (begun_opened h local p s₁ o) a d)

  module _ (A : Starts S) (on : Followed local es ns p S A) (closed : Closed local es ns p S A cap E) where
    -- by a rule, from what stands there
    by_rule : {m n : ℕ} {o : Bool} {k : ℕ} {w : S.Meaning} {c : S.Left} {q : ℕ} {t : Aim S.Left} → A o k w c q → Aimed t
        → Rule local es ns p S E m o k w c q t
        → m ≤ n → n ≤ cap → Has n o k w c q t
    by_rule {m} {n} {o} {k} {w} {c} {q} {t} h a r l s = let (i, j, e) = closed m o k w c q t h a r (omega arith) in (i, omega arith, e)

    goes-has : {n : ℕ} {o : Bool} {k : ℕ} {w : S.Meaning} {c : S.Left} {q : ℕ} {t : Aim S.Left} → Goes local es ns p S n o k w c q t
        → A o k w c q → Aimed t
        → n ≤ cap → Has n o k w c q t
    goes-has (Goes.ends i) h a s = by_rule h a (Rule.ends i) (omega arith) s
    goes-has (Goes.fires_static i v) h a s = by_rule h a (Rule.fires_static i v) (omega arith) s
    goes-has (Goes.fires_name i v) h a s = by_rule h a (Rule.fires_name i v) (omega arith) s
    goes-has (Goes.sequences i d f) h a s =
        let (m₁, l₁, e₁) = goes-has d (on.first i h) at_end (omega arith) in
        let (m₂, l₂, e₂) = goes-has f (on.second i h d) a (omega arith) in
        by_rule h a (Rule.sequences i e₁ e₂) (omega arith) s
    goes-has (Goes.chooses_left i d) h a s = let (m, l, e) = goes-has d (on.left i h) a s in by_rule h a (Rule.chooses_left i e) l s
    goes-has (Goes.chooses_right i d) h a s = let (m, l, e) = goes-has d (on.right i h) a s in by_rule h a (Rule.chooses_right i e) l s
    goes-has (Goes.enters i d) h a s = let (m, l, e) = goes-has d (on.body i h) a s in by_rule h a (Rule.enters i e) l s
    goes-has (Goes.repeats i d) h a s = let (m, l, e) = goes-has d (on.again i h) a s in by_rule h a (Rule.repeats i e) l s
    goes-has (Goes.makes i y v d) h a s =
        let (j, l, e) = goes-has d (on.created i y v h) a (omega arith) in
        by_rule h a (Rule.makes i y v e) (omega arith) s
    goes-has (Goes.sandboxes i d) h a s =
        let (j, l, e) = goes-has d (on.inside i h) at_end (omega arith) in by_rule h a (Rule.sandboxes i e) (omega arith) s
    goes-has (Goes.breaks_static i v f z) h a s = by_rule h a (Rule.breaks_static i v f z) (omega arith) s
    goes-has (Goes.breaks_name i v f z) h a s = by_rule h a (Rule.breaks_name i v f z) (omega arith) s
    goes-has (Goes.breaks_fresh i y v f z) h a s = by_rule h a (Rule.breaks_fresh i y v f z) (omega arith) s
    goes-has (Goes.breaks_opening i f z) h a s = by_rule h a (Rule.breaks_opening i f z) (omega arith) s
    goes-has (Goes.breaks_first i d) h a s = let (m, l, e) = goes-has d (on.first i h) a s in by_rule h a (Rule.breaks_first i e) l s
    goes-has (Goes.breaks_inside i d) h a s =
        let (j, l, e) = goes-has d (on.inside i h) a (omega arith) in by_rule h a (Rule.breaks_inside i e) (omega arith) s

  -- The theorem on filling: each entry is a length, and at the starts in A no rule adds anything.
  pub closed-least : (A : Starts S) → Followed local es ns p S A → Lengths local es ns p S cap E → Closed local es ns p S A cap E
      → Least local es ns p S A cap E
  closed-least A on h closed = record { lengths = h; full = λ b a d s. goes-has A on closed d b a s }

-- the entries below a number are lengths too
pub less-lengths : {local : Bool} {es : List Edge} {ns : List Node} {p : ℕ} {S : Sight} {cap : ℕ} {E : Entries S.Meaning S.Left}
    (most : ℕ)
    → Lengths local es ns p S cap E → Lengths local es ns p S cap (Less most E)
less-lengths most h = record { sound = λ b a e. h.sound b a e.1; capped = λ e. h.capped e.1; one = λ e f. h.one e.1 f.1 }
