-- Where the check names a policy, its tables are right, and so a counterexample or its absence is told.
use Prim.Native.Nat.{ℕ, ◌≤◌}
use mathlib.Core.Path.{◌≡◌, refl, subst}
use mathlib.Core.Bool.{Bool}
use mathlib.Core.List.{List}
use mathlib.Core.Option.{Option, none, some}
use mathlib.Core.Logic.{inl, inr}
use native.Mathlib.Omega.{arith}
use lib.ListN.{length}
use Rattle.usage.proofs.Logic.{clash}
use Rattle.checker_trace.specs.Answer.{most_numbers}
use Rattle.checker_trace.specs.Answer as trace
use Rattle.usage.specs.Past.{Past}
use Rattle.usage.specs.Check as usage
use Rattle.usage.specs.Tables.{edges_of, nodes_of}
use Rattle.usage.specs.Answers.{Verdict, violated, refused}
use Rattle.checker_trace.specs.Steps.{laid}
use Rattle.checker_counterexample.specs.declared.Explanation.{Explanation}
use Rattle.checker_counterexample.specs.declared.Explanation.TheVariants.{Shown, Longer}
use Rattle.std.specs.Prelude.{Result, Ok}
use Rattle.usage.specs.declared.Reason.{Reason}
use Rattle.checker.specs.Promise.{CheckPromise, no_edges, no_nodes}
use Rattle.checker_counterexample.specs.Explained.{NamedBy, Explained}

no-refusal : {A : Type 0} {p k : ℕ} → ◌≡◌ {A = Verdict} (violated p) (refused k) → A
no-refusal e = clash (cc)

no-violation : {A : Type 0} {p k : ℕ} → ◌≡◌ {A = Verdict} (refused k) (violated p) → A
no-violation e = clash (cc)

-- what an answer of the code tells, by its verdict and its length
module _ (local : Bool) (e n t : List ℕ) (p : ℕ) where
  abbrev ShownAs : Option Past → Type 0
  ShownAs o = usage.Shown local (edges_of e) (nodes_of n) p o

  longer-told : {v : Verdict} {o : Option ℕ} {t' : List ℕ} → trace.ToldAs local e n p t v o t' → v ≡ violated p → o ≡ none
      → (t ≡ t') × ShownAs none
  longer-told (trace.ToldAs.too_small k) v o = no-violation v
  longer-told (trace.ToldAs.no_table k a) v o = no-violation v
  longer-told (trace.ToldAs.longer k a b s) v o = (refl, s)
  longer-told (trace.ToldAs.this_long k a b s) v o = absurd (cc)

  shown-told : {v : Verdict} {o : Option ℕ} {t' : List ℕ} {k : ℕ} → trace.ToldAs local e n p t v o t' → v ≡ violated p → o ≡ some k
      → (past : Past) × (length past ≡ k) × (laid t past ≡ t') × ShownAs (some past)
  shown-told (trace.ToldAs.too_small k) v o = no-violation v
  shown-told (trace.ToldAs.no_table k a) v o = no-violation v
  shown-told (trace.ToldAs.longer k a b s) v o = absurd (cc)
  shown-told (trace.ToldAs.this_long {past = past} k a b s) v o = (past, cc, refl, s)

  refused-told : {v : Verdict} {o : Option ℕ} {t' : List ℕ} {k : ℕ} → trace.ToldAs local e n p t v o t' → v ≡ refused k
      → most_numbers ≤ length t → CheckPromise local e n (violated p) → ⊥
  refused-told (trace.ToldAs.too_small k) v l h = absurd (omega arith)
  refused-told (trace.ToldAs.no_table k (inl a)) v l h = no-refusal ((h.exact (refused 41)).0 (no_edges a))
  refused-told (trace.ToldAs.no_table k (inr a)) v l h = no-refusal ((h.exact (refused 41)).0 (no_nodes a))
  refused-told (trace.ToldAs.longer k a b s) v l h = no-refusal v
  refused-told (trace.ToldAs.this_long k a b s) v l h = no-refusal v

pub named-explained : {local : Bool} {e n t t' : List ℕ} {p : ℕ} {r : Result Explanation Reason} → most_numbers ≤ length t
    → CheckPromise local e n (violated p) → NamedBy local e n p t r t' → Explained local e n t r t'
named-explained {local} {e} {n} {t} {t'} {p} l h (NamedBy.told_shown a) =
    let (past, k, u, s) = shown-told local e n t p a refl refl in
    subst (λ (k : ℕ). Explained local e n t (Ok (Shown p k)) t') k
    (subst (λ (u : List ℕ). Explained local e n t (Ok (Shown p (length past))) u) u (Explained.this_long l h s))
named-explained {local} {e} {n} {t} {t'} {p} l h (NamedBy.told_longer a) =
    let (u, s) = longer-told local e n t p a refl refl in
    subst (λ (u : List ℕ). Explained local e n t (Ok (Longer p)) u) u (Explained.longer l h s)
named-explained {local} {e} {n} {t} {t'} {p} l h (NamedBy.told_refused a) = absurd (refused-told local e n t p a refl l h)
