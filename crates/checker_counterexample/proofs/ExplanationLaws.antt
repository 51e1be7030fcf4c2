-- What holds of every explanation that is promised: its verdict is the check's, no two of the same tables differ but in the trace, and what
-- is written is a shortest trace, else nothing.
use Prim.Native.Nat.{ℕ, ◌<◌, ◌≤◌}
use mathlib.Core.Path.{◌≡◌, refl, sym, ap, ap₂, subst}
use mathlib.Core.Bool.{Bool}
use mathlib.Core.List.{List, [], ◌∷◌}
use native.Mathlib.Omega.{arith}
use lib.ListN.{length}
use Rattle.usage.specs.declared.Edge.{Edge}
use Rattle.usage.specs.Limits.{most_shown}
use Rattle.usage.specs.Past.{Past, Violates}
use Rattle.usage.specs.Outline.{IsTrace}
use Rattle.usage.specs.Answers.{Verdict, allowed, violated, refused}
use Rattle.usage.specs.Check.{Shortest, this, longer}
use Rattle.usage.specs.Tables.{edges_of, nodes_of}
use Rattle.usage.proofs.Logic.{clash}
use Rattle.checker_trace.specs.Answer.{most_numbers}
use Rattle.checker_trace.specs.Steps.{numbers, laid}
use Rattle.checker_counterexample.specs.declared.Explanation.{Explanation}
use Rattle.checker_counterexample.specs.declared.Explanation.TheVariants.{Shown, Longer}
use Rattle.std.specs.Prelude.{Result, Ok, Err}
use Rattle.usage.specs.declared.Reason.{Reason}
use Rattle.usage.specs.Reasons.{number_of}
use Rattle.checker.proofs.ReasonLaws.{reason-one}
use Rattle.checker.specs.Promise.{CheckPromise}
use Rattle.checker_counterexample.specs.Explained.{Explained, explanation_verdict, steps_written_lem}
use Rattle.checker.proofs.PromiseLaws.{promised-right}

policy-violates : {local : Bool} {es : List Edge} {p q : ℕ} {past : Past} → p ≡ q → Violates local es p past → Violates local es q past
policy-violates {local} {es} {past = past} h v = subst (λ (i : ℕ). Violates local es i past) h v

module _ {local : Bool} {e n : List ℕ} where
  same-verdict : {v w : Verdict} → CheckPromise local e n v → CheckPromise local e n w → v ≡ w
  same-verdict {w = w} c d = (c.exact w).0 (promised-right d)

  same-policy : {p q : ℕ} → CheckPromise local e n (violated p) → CheckPromise local e n (violated q) → p ≡ q
  same-policy {p} {q} c d = let h : violated p ≡ violated q = same-verdict c d in cc

module _ {local : Bool} {e n t : List ℕ} where
  -- the verdict is the check's, where the lent table has the room
  pub explained-verdict : {x : Result Explanation Reason} {t' : List ℕ} → Explained local e n t x t' → most_numbers ≤ length t
      → CheckPromise local e n (explanation_verdict x)
  explained-verdict (Explained.too_small l) h = absurd (omega arith)
  explained-verdict (Explained.refused_with l c) h = c
  explained-verdict (Explained.accepted l c) h = c
  explained-verdict (Explained.longer l c s) h = c
  explained-verdict (Explained.this_long l c s) h = c

  -- and 40 where it has not
  pub explained-small : {x : Result Explanation Reason} {t' : List ℕ} → Explained local e n t x t' → length t < most_numbers
      → explanation_verdict x ≡ refused 40
  explained-small (Explained.too_small l) h = refl
  explained-small (Explained.refused_with l c) h = absurd (omega arith)
  explained-small (Explained.accepted l c) h = absurd (omega arith)
  explained-small (Explained.longer l c s) h = absurd (omega arith)
  explained-small (Explained.this_long l c s) h = absurd (omega arith)

  -- where no step is written, the lent table is as it was
  pub explained-nothing : {x : Result Explanation Reason} {t' : List ℕ} → Explained local e n t x t' → steps_written_lem x ≡ 0 → t' ≡ t
  unfolding laid numbers
  explained-nothing (Explained.too_small l) h = refl
  explained-nothing (Explained.refused_with l c) h = refl
  explained-nothing (Explained.accepted l c) h = refl
  explained-nothing (Explained.longer l c s) h = refl
  explained-nothing (Explained.this_long {past = past} l c s) h = go past h
    where
      go : (past : Past) → length past ≡ 0 → laid t past ≡ t
      go [] k = refl
      go (s ∷ past) k = absurd (omega arith)

  -- a trace that is written is a shortest one, and the table holds it
  pub explained-shown : (p s : ℕ) (t' : List ℕ) → Explained local e n t (Ok (Shown p s)) t'
      → (past : Past) × Shortest local (edges_of e) (nodes_of n) p past × (length past ≡ s) × (s ≤ most_shown) × (t' ≡ laid t past)
  explained-shown p s t' (Explained.this_long {past = past} l c (this h few)) = (past, h, refl, few, refl)

  -- else every such trace is longer
  pub explained-longer : (p : ℕ) (t' : List ℕ) → Explained local e n t (Ok (Longer p)) t' → (past : Past) → IsTrace (nodes_of n) past
      → Violates local (edges_of e) p past → most_shown < length past
  explained-longer p t' (Explained.longer l c (longer f)) = f

  -- no two explanations of the same tables differ but in the trace
  pub explained-unique : {x y : Result Explanation Reason} {t' u' : List ℕ} → Explained local e n t x t' → Explained local e n t y u' → x ≡ y
  explained-unique (Explained.too_small l) (Explained.too_small m) = refl
  explained-unique (Explained.too_small l) (Explained.refused_with m d) = absurd (omega arith)
  explained-unique (Explained.too_small l) (Explained.accepted m d) = absurd (omega arith)
  explained-unique (Explained.too_small l) (Explained.longer m d s) = absurd (omega arith)
  explained-unique (Explained.too_small l) (Explained.this_long m d s) = absurd (omega arith)
  explained-unique (Explained.refused_with l c) (Explained.too_small m) = absurd (omega arith)
  explained-unique (Explained.refused_with {r} l c) (Explained.refused_with {r = s} m d) =
      let h : refused (number_of r) ≡ refused (number_of s) = same-verdict c d in
      let q : number_of r ≡ number_of s = cc in
      ap Err (reason-one q)
  explained-unique (Explained.refused_with {r = u} l c) (Explained.accepted m d) = let h : refused (number_of u) ≡ allowed = same-verdict c d in clash (cc)
  explained-unique (Explained.refused_with {r = u} l c) (Explained.longer {p} m d s) =
      let h : refused (number_of u) ≡ violated p = same-verdict c d in clash (cc)
  explained-unique (Explained.refused_with {r = u} l c) (Explained.this_long {p} m d s) =
      let h : refused (number_of u) ≡ violated p = same-verdict c d in clash (cc)
  explained-unique (Explained.accepted l c) (Explained.too_small m) = absurd (omega arith)
  explained-unique (Explained.accepted l c) (Explained.refused_with {r = u} m d) = let h : allowed ≡ refused (number_of u) = same-verdict c d in clash (cc)
  explained-unique (Explained.accepted l c) (Explained.accepted m d) = refl
  explained-unique (Explained.accepted l c) (Explained.longer {p} m d s) = let h : allowed ≡ violated p = same-verdict c d in clash (cc)
  explained-unique (Explained.accepted l c) (Explained.this_long {p} m d s) = let h : allowed ≡ violated p = same-verdict c d in clash (cc)
  explained-unique (Explained.longer l c r) (Explained.too_small m) = absurd (omega arith)
  explained-unique (Explained.longer {p} l c r) (Explained.refused_with {r = u} m d) =
      let h : violated p ≡ refused (number_of u) = same-verdict c d in clash (cc)
  explained-unique (Explained.longer {p} l c r) (Explained.accepted m d) = let h : violated p ≡ allowed = same-verdict c d in clash (cc)
  explained-unique (Explained.longer l c r) (Explained.longer m d s) = ap (λ (p : ℕ). Ok (Longer p)) (same-policy c d)
  explained-unique (Explained.longer {p} l c (longer f)) (Explained.this_long {p = q} {past} m d (this h few)) =
      let k = f past h.trace (policy-violates (sym (same-policy c d)) h.violates) in absurd (omega arith)
  explained-unique (Explained.this_long l c r) (Explained.too_small m) = absurd (omega arith)
  explained-unique (Explained.this_long {p} l c r) (Explained.refused_with {r = u} m d) =
      let h : violated p ≡ refused (number_of u) = same-verdict c d in clash (cc)
  explained-unique (Explained.this_long {p} l c r) (Explained.accepted m d) = let h : violated p ≡ allowed = same-verdict c d in clash (cc)
  explained-unique (Explained.this_long {p = q} {past} l c (this h few)) (Explained.longer {p} m d (longer f)) =
      let k = f past h.trace (policy-violates (same-policy c d) h.violates) in absurd (omega arith)
  explained-unique (Explained.this_long {p} {past} l c (this h few)) (Explained.this_long {p = q} {past = another} m d (this k some-few)) =
      let s = same-policy c d in
      let a = h.least another k.trace (policy-violates (sym s) k.violates) in
      let b = k.least past h.trace (policy-violates s h.violates) in
      let long : length past ≡ length another = omega arith in
      ap₂ (λ (p k : ℕ). Ok (Shown p k)) s long
