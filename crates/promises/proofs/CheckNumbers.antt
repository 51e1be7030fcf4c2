-- Which numbers the check answers, with a counterexample and without one, and what it leaves of the lent table.
use Prim.Native.Nat.{ℕ, ◌<◌}
use mathlib.Core.Path.{◌≡◌, refl, sym, subst}
use mathlib.Core.Bool.{Bool, true, false}
use mathlib.Core.List.Memᴰ
use mathlib.Core.List.{List}
use mathlib.Core.Logic.{◌↔◌, ◌⊎◌, inl, inr}
use native.Mathlib.Omega.{arith}
use lib.Dec.{ltb}
use lib.ListN.{length}
use borrow.Author.Tests.{ltb-true, ltb-false}
use Rattle.usage.specs.Answers.{Verdict, allowed, violated, refused}
use Rattle.usage.specs.Tables.{EdgeTable, NodeTable}
use Rattle.usage.proofs.Logic.{clash}
use Rattle.checker_trace.specs.Answer.{most_numbers}
use Rattle.checker_counterexample.specs.declared.Explanation.{Explanation}
use Rattle.checker_counterexample.specs.declared.Explanation.TheVariants.{Accepted, Shown, Longer}
use Rattle.std.specs.Prelude.{Result, Ok, Err}
use Rattle.usage.specs.declared.Reason.{Reason}
use Rattle.checker.specs.Promise.{RightVerdict, CheckPromise}
use Rattle.checker_counterexample.specs.Explained.{Explained, explanation_verdict, steps_written_lem}
use Rattle.checker.proofs.PromiseLaws.{promised-right, promise-no-edges, promise-no-nodes}
use Rattle.checker.proofs.RightLaws.{right-policy, right-number}
use Rattle.checker_counterexample.proofs.ExplanationLaws.{explained-verdict, explained-small, explained-nothing, explained-shown, explained-longer}
use Rattle.checker_counterexample.proofs.ExplanationLaws.{explained-unique}
use Rattle.promises.specs.Demands.{Listed, check_numbers, explanation_numbers, CheckRefuses, Counterexamples}
use Rattle.promises.proofs.JudgeNumbers.{nth}

right-listed : (local : Bool) (e n : List ℕ) (v : Verdict) → RightVerdict local e n v → Listed check_numbers v
right-listed local e n allowed h = tt
right-listed local e n (violated p) h = right-policy local e n p h
right-listed local e n (refused k) h =
    subst (λ (i : ℕ). Listed check_numbers (refused i)) (sym (right-number local e n k h).0) (nth 0 check_numbers refl)

-- the list of the check with a counterexample has 40 besides
also-listed : (v : Verdict) → Listed check_numbers v → Listed explanation_numbers v
also-listed allowed h = tt
also-listed (violated p) h = h
also-listed (refused k) h = Memᴰ.tail h

module _ (local : Bool) (e n : List ℕ) where
  no_table : (v : Verdict) → CheckPromise local e n v → (v ≡ refused 41) ↔ ((EdgeTable e → ⊥) ⊎ (NodeTable n → ⊥))
  no_table v c = (λ q. (right-number local e n 41 (subst (RightVerdict local e n) q (promised-right c))).1, back)
    where
      back : (EdgeTable e → ⊥) ⊎ (NodeTable n → ⊥) → v ≡ refused 41
      back (inl f) = promise-no-edges c f
      back (inr f) = promise-no-nodes c f

  module _ (t : List ℕ) (x : Result Explanation Reason) (t' : List ℕ) (h : Explained local e n t x t') where
    explained_listed : Listed explanation_numbers (explanation_verdict x)
    explained_listed = go (ltb (length t) most_numbers) refl
      where
        go : (b : Bool) → ltb (length t) most_numbers ≡ b → Listed explanation_numbers (explanation_verdict x)
        go true q =
            subst (Listed explanation_numbers) (sym (explained-small h (ltb-true (length t) most_numbers q))) (nth 0 explanation_numbers refl)
        go false q =
            also-listed (explanation_verdict x)
            (right-listed local e n (explanation_verdict x)
            (promised-right (explained-verdict h (ltb-false (length t) most_numbers q))))

    no_room : (explanation_verdict x ≡ refused 40) ↔ (length t < most_numbers)
    no_room = (λ q. go (ltb (length t) most_numbers) refl q, explained-small h)
      where
        go : (b : Bool) → ltb (length t) most_numbers ≡ b → explanation_verdict x ≡ refused 40 → length t < most_numbers
        go true p q = ltb-true (length t) most_numbers p
        go false p q =
            let r = (right-number local e n 40
            (subst (RightVerdict local e n) q (promised-right (explained-verdict h (ltb-false (length t) most_numbers p))))).0 in
            absurd (omega arith)

    keeps : (k : ℕ) → explanation_verdict x ≡ refused k → t' ≡ t
    keeps k q = explained-nothing h (none x q)
      where
        none : (x : Result Explanation Reason) → explanation_verdict x ≡ refused k → steps_written_lem x ≡ 0
        none (Ok Accepted) q = refl
        none (Ok (Shown p s)) q = clash (cc)
        none (Ok (Longer p)) q = refl
        none (Err j) q = refl

pub check-refuses : CheckRefuses
check-refuses = record {
  listed = λ local e n v c. right-listed local e n v (promised-right c);
  no_table = no_table;
  explained_listed = explained_listed;
  no_room = no_room;
  keeps = λ local e n t x t' k h q. keeps local e n t x t' h k q;
}

pub counterexamples-hold : Counterexamples
counterexamples-hold = record {
  verdict = λ local e n t x t' h l. explained-verdict h l;
  one_answer = λ local e n t x y t' u' h k. explained-unique h k;
  shown = λ local e n t p s t' h. explained-shown p s t' h;
  longer = λ local e n t p t' h. explained-longer p t' h;
  nothing = λ local e n t x t' h q. explained-nothing h q;
}
