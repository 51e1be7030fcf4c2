-- The cases of the local meaning are right, and so are the same steps where the whole past counts: by computing the judge's definition.
use mathlib.Core.Path.{◌≡◌, refl}
use mathlib.Core.Bool.{true, false}
use mathlib.Core.List.{map}
use Rattle.usage.specs.Tests.{every}
use Rattle.test_cases.specs.JudgeCases.{JudgedRight}
use Rattle.test_cases.specs.LocalCases.{cases_local, LocalRight, cases_whole, WholeRight}
use Rattle.test_cases.proofs.JudgeRight.{among, run, possible, right-each}

tables-local : every (λ c. possible c.edges) cases_local ≡ true
unfolding possible
tables-local = refl

computed-local : map (λ c. run c.edges true c.steps) cases_local ≡ map (λ c. c.answers) cases_local
unfolding run
computed-local = refl

pub local-right : LocalRight
local-right = among (JudgedRight true) cases_local (right-each true cases_local tables-local computed-local)

tables-whole : every (λ c. possible c.edges) cases_whole ≡ true
unfolding possible
tables-whole = refl

computed-whole : map (λ c. run c.edges false c.steps) cases_whole ≡ map (λ c. c.answers) cases_whole
unfolding run
computed-whole = refl

pub whole-right : WholeRight
whole-right = among (JudgedRight false) cases_whole (right-each false cases_whole tables-whole computed-whole)
