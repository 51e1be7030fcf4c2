-- Document 01's cases A to L: each is right.
use mathlib.Core.List.{[], ◌∷◌, Memᴰ}
use Rattle.test_cases.specs.Cases.{LetterCase, checked, only_empty, Right, nodes_l, case_i, case_j, case_k, case_l, cases}
use Rattle.test_cases.proofs.JudgeRight.{Each, among, right-AH, valid-A}
use Rattle.test_cases.proofs.Others.{right-others-F}
use Rattle.test_cases.proofs.ChecksIL.{outline-L, right-I, right-J, right-K, right-L}
use Rattle.test_cases.proofs.OnlyEmpty.{only-empty-L}

checks : Each Right (checked case_i ∷ checked case_j ∷ checked case_k ∷ checked case_l ∷ only_empty nodes_l ∷ [])
checks = (right-I, (right-J, (right-K, (right-L, ((outline-L, only-empty-L), tt)))))

each_right : Each Right cases
each_right =
    let (a, (b, (c, (d, (e, (f, (g, (h, none)))))))) = right-AH in
    (valid-A, (a, (b, (c, (d, (e, (f, (right-others-F, (g, (h, checks))))))))))

-- "A to L are shown from the definitions, gathered as a single list with one claim"
pub all_right : (c : LetterCase) → Memᴰ c cases → Right c
all_right = among Right cases each_right
