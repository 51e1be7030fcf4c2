-- The numbers that the judge and the check answer are below 256, and so are the policies: a code tells which answer it is of.
use Prim.Native.Nat.{ℕ, ◌<◌}
use mathlib.Core.Path.{◌≡◌, refl}
use mathlib.Core.Bool.{true}
use mathlib.Core.List.{List}
use native.Mathlib.Omega.{arith}
use lib.Dec.{ltb}
use Rattle.usage.specs.Answers.{Verdict, allowed, violated, refused, detail}
use Rattle.usage.specs.Tests.{every}
use Rattle.usage.proofs.Decides.{d-lt, d-every}
use Rattle.checker_counterexample.specs.Explained.{explanation_verdict, steps_written_lem}
use Rattle.api_c.proofs.CodeLaws.{code_one, code-with-steps-one}
use Rattle.promises.specs.Demands.{judge_numbers, check_numbers, explanation_numbers, Listed, ToldByCodes}

listed_small : (numbers : List ℕ) → every (λ n. ltb n 256) numbers ≡ true → (v : Verdict) → Listed numbers v → detail v < 256
listed_small numbers h allowed l = omega arith
listed_small numbers h (violated p) l = omega arith
listed_small numbers h (refused n) l = (d-every (λ n. ltb n 256) (λ n. d-lt n 256) numbers).0 h n l

judge-small : (v : Verdict) → Listed judge_numbers v → detail v < 256
unfolding every
judge-small = listed_small judge_numbers refl

check-small : (v : Verdict) → Listed check_numbers v → detail v < 256
unfolding every
check-small = listed_small check_numbers refl

explanation-small : (v : Verdict) → Listed explanation_numbers v → detail v < 256
unfolding every
explanation-small = listed_small explanation_numbers refl

pub told_by_codes : ToldByCodes
told_by_codes = record {
  judge = λ v w l m. code_one v w (judge-small v l) (judge-small w m);
  check = λ v w l m. code_one v w (check-small v l) (check-small w m);
  counterexample = λ x y l m.
      code-with-steps-one (steps_written_lem x) (steps_written_lem y) (explanation_verdict x) (explanation_verdict y)
      (explanation-small (explanation_verdict x) l) (explanation-small (explanation_verdict y) m);
}
