-- The number is that of the check's verdict, which is the only one that is right.
use mathlib.Core.Path.{ap, ◌∙◌}
use Rattle.usage.specs.Answers.{refused}
use Rattle.checker.specs.Promise.{outcome_verdict}
use Rattle.api_c.specs.Codes.{code_of}
use Rattle.api_c.specs.Check.{no_choice, chosen}
use Rattle.api_c.proofs.ChoiceLaws.{right-none, right-chosen}
use Rattle.api_c.proofs.wiforekun_check.Goals as goal

pub returns-then-local-gt-MOST_CHOICE : goal.returns-then-local-gt-MOST_CHOICE
returns-then-local-gt-MOST_CHOICE c = record {
  told = λ v h. c.refused.ensures ∙ ap code_of (right-none c.if-local-gt-MOST_CHOICE.true h);
  verdict = refused 41;
  promised = no_choice c.if-local-gt-MOST_CHOICE.true;
}

pub returns : goal.returns
returns c =
    let k = c.check-o in
    let l = c.if-local-gt-MOST_CHOICE.false in
    record {
      told = λ v h. c.outcome_code.ensures ∙ ap code_of ((k.ensures.exact v).0 (right-chosen l h));
      verdict = outcome_verdict k.result;
      promised = chosen l k.ensures;
    }
